use Rattle.std.proofs.Common.{sym, ◌≡◌, true}
use Rattle.template_reader.proofs.Scanning.{unquoted-end, unquoted-goes, unquoted-found}
use Rattle.template_reader.proofs.scan.through_unquoted.Goals.{else-stands-via-then-stands+else-not-quoted, else-stands-via-else-stands}
use Rattle.template_reader.proofs.scan.through_unquoted.Goals as goal

pub returns-then-not-quoted-clause-value : goal.returns-then-not-quoted-clause-value
returns-then-not-quoted-clause-value c =
    unquoted-found c.args.mark.now c.args.bytes.now c.loop-i.i c.loop-i.quoted c.begins_at-stands.result c.loop-i.invariant c.loop-i-test.true
    (sym c.begins_at-stands.ensures.value) c.if-stands.true c.if-not-quoted.true

pub loop-i-preserved : goal.loop-i-preserved
loop-i-preserved c =
    let stops : c.begins_at-stands.result ≡ true → c.loop-i.quoted ≡ true =
    λ e. elim c.else-stands.branch [
      | else-stands-via-then-stands+else-not-quoted w ↦ w.if-not-quoted.false
      | else-stands-via-else-stands w ↦ absurd
          (let d = w.if-stands.false in cc)
    ] in
    unquoted-goes c.args.mark.now c.args.bytes.now c.loop-i.i c.loop-i.quoted c.begins_at-stands.result c.is_quoted_after-quoted.result c.loop-i.invariant
    c.loop-i-test.true (sym c.begins_at-stands.ensures.value) stops c.is_quoted_after-quoted.ensures

pub returns-clause-value : goal.returns-clause-value
returns-clause-value c = unquoted-end c.args.mark.now c.args.bytes.now c.loop-i.i c.loop-i.quoted c.loop-i.invariant c.loop-i-test.false
