use Rattle.key_names.proofs.Broken.{is_key-spelled}
use Rattle.key_names.proofs.key.Key.of_text.Goals as goal

pub of_packed-requires : goal.of_packed-requires
of_packed-requires c = rw c.into_text.ensures (is_key-spelled c.args.text.now c.in_ok-spelled.spelled.segments c.in_ok-spelled.ensures.spelled
    c.in-None.ensures.limit)
