use Rattle.std.proofs.Common.{◌≡◌, ◌++◌, ◌∷◌, [], refl, rules}
use Rattle.user_data.proofs.Places.{place_is, some_names, no_key}
use Rattle.user_data.proofs.place.Place.below.Goals as goal

pub invariant_of-result : goal.invariant_of-result
invariant_of-result c =
    let key = rw c.in-Some.is at c.in_ok-key.ensures in
    let self = c.args.self.now in
    let there : c.of-at.result ≡ self.at ++ 47 ∷ c.args.name.now = search rules in
    record {
      some = some_names self.key c.in-Some.key c.args.name.now key.0;
      printed =
          place_is self.key c.in-Some.key self.at c.of-at.result c.args.name.now self.some self.printed key.0 there;
    }

pub returns-in-None-clause-refused : goal.returns-in-None-clause-refused
returns-in-None-clause-refused c pairs =
    let none = rw c.in-None.is at c.in_ok-key.ensures in
    let self = c.args.self.now in
    let there : c.of-at.result ≡ self.at ++ 47 ∷ c.args.name.now = search rules in
    no_key (self.key ++ c.args.name.now ∷ []) c.of-at.result pairs none
    (place_is self.key (self.key ++ c.args.name.now ∷ []) self.at c.of-at.result c.args.name.now self.some self.printed refl there)
