-- A head that is refused by its lines or its grammar.
use Rattle.std.proofs.Common.{◌≡◌, ◌≢◌, ◌⊎◌, ℕ, List, inl, inr, refl, sym, subst, ap, ◌∙◌}
use Rattle.std.proofs.lemmas.Bool.{cases_eq}
use Rattle.httparse.specs.Grammar.{HasNoRequest, NeverHasRequest}
use Rattle.api_http.specs.declared.refusal.Refusal.TheVariants.{Head}
use Rattle.api_http.specs.Heads.{line_feeds, shown}
use Rattle.api_http.specs.Requests.{many_lines, MayRefuse}
use Rattle.api_http.proofs.Hopeless.{no_head_there, many_lines_there, few_lines_there, never_there}

-- bytes that are refused within those looked at may be refused
pub refused_there : (bytes part : List ℕ) → part ≡ shown bytes → HasNoRequest part × ((line_feeds part ≡ 66) ⊎ NeverHasRequest part) → MayRefuse bytes Head
refused_there bytes part is (none, inl full) = inl (many_lines (no_head_there bytes (subst HasNoRequest is none))
    (many_lines_there bytes (ap line_feeds (sym is) ∙ full)))
refused_there bytes part is (none, inr never) = by (cases_eq (line_feeds (shown bytes)) 66)
  where
    by : ((line_feeds (shown bytes) ≡ 66) ⊎ (line_feeds (shown bytes) ≢ 66)) → MayRefuse bytes Head
    by (inl full) = inl (many_lines (no_head_there bytes (subst HasNoRequest is none)) (many_lines_there bytes full))
    by (inr few) = inr (
      refl,
      record {
        no_head = no_head_there bytes (subst HasNoRequest is none);
        few = few_lines_there bytes few;
        never =
            never_there bytes (subst NeverHasRequest is never);
      },
    )
