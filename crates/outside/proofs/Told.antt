-- What a device tells, over several calls.
use Rattle.std.proofs.Common.{◌≡◌, Option, Some, None, IfSome, sym, subst}
use Rattle.outside.specs.Told.{BothBy, Moves, WhereTold}

module _ {S : Type 0} where
  stays : (R : S → S → Type 0) (a : Option S) → ((s : S) → R s s) → BothBy R a a
  stays R None here = tt
  stays R (Some s) here = here s

  mapped : (R Q : S → S → Type 0) (a b : Option S) → ((s t : S) → R s t → Q s t) → BothBy R a b → BothBy Q a b
  mapped R Q None None f m = tt
  mapped R Q (Some s) (Some t) f m = f s t m
  mapped R Q None (Some t) f m = m
  mapped R Q (Some s) None f m = m

  joined : (R Q W : S → S → Type 0) (a b c : Option S) → ((s t u : S) → R s t → Q t u → W s u) → BothBy R a b → BothBy Q b c → BothBy W a c
  joined R Q W None None None f m n = tt
  joined R Q W (Some s) (Some t) (Some u) f m n = f s t u m n
  joined R Q W None None (Some u) f m n = n
  joined R Q W None (Some t) c f m n = absurd m
  joined R Q W (Some s) None c f m n = absurd m
  joined R Q W (Some s) (Some t) None f m n = n

  -- no call so far
  pub moves_stay : {R : S → S → Type 0} {a : Option S} → ((s : S) → R s s) → Moves a a R
  moves_stay {R = R} {a = a} here = record { told = stays R a here }

  -- a call that changes nothing
  pub moves_same : {R : S → S → Type 0} {a b : Option S} → b ≡ a → ((s : S) → R s s) → Moves a b R
  moves_same {R = R} {a = a} same here = subst (λ x. Moves a x R) (sym same) (moves_stay here)

  pub moves_map : {R Q : S → S → Type 0} {a b : Option S} → ((s t : S) → R s t → Q s t) → Moves a b R → Moves a b Q
  moves_map {R = R} {Q = Q} {a = a} {b = b} f m = record { told = mapped R Q a b f m.told }

  -- one after another
  pub moves_then : {R Q W : S → S → Type 0} {a b c : Option S} → ((s t u : S) → R s t → Q t u → W s u) → Moves a b R → Moves b c Q → Moves a c W
  moves_then {R = R} {Q = Q} {W = W} {a = a} {b = b} {c = c} f m n = record { told = joined R Q W a b c f m.told n.told }

  -- a call that changes nothing before others
  pub moves_after : {R : S → S → Type 0} {a b c : Option S} → b ≡ a → Moves b c R → Moves a c R
  moves_after {R = R} {c = c} same m = subst (λ x. Moves x c R) same m

  with_fact : (P : S → Type 0) (R : S → S → Type 0) (a b : Option S) → IfSome a P → BothBy R a b → BothBy (λ s t. P s × R s t) a b
  with_fact P R None None p m = tt
  with_fact P R (Some s) (Some t) p m = (p, m)
  with_fact P R None (Some t) p m = m
  with_fact P R (Some s) None p m = m

  -- what is known at the start
  pub moves_where : {P : S → Type 0} {R : S → S → Type 0} {a b : Option S} → WhereTold a P → Moves a b R → Moves a b (λ s t. P s × R s t)
  moves_where {P = P} {R = R} {a = a} {b = b} p m = record { told = with_fact P R a b p.is m.told }

  fact_mapped : (P Q : S → Type 0) (a : Option S) → ((s : S) → P s → Q s) → IfSome a P → IfSome a Q
  fact_mapped P Q None f p = tt
  fact_mapped P Q (Some s) f p = f s p

  pub where_map : {P Q : S → Type 0} {a : Option S} → ((s : S) → P s → Q s) → WhereTold a P → WhereTold a Q
  where_map {P = P} {Q = Q} {a = a} f p = record { is = fact_mapped P Q a f p.is }

  fact_always : (P : S → Type 0) (a : Option S) → ((s : S) → P s) → IfSome a P
  fact_always P None f = tt
  fact_always P (Some s) f = f s

  pub where_all : {P : S → Type 0} {a : Option S} → ((s : S) → P s) → WhereTold a P
  where_all {P = P} {a = a} f = record { is = fact_always P a f }

  facts_both : (P Q : S → Type 0) (a : Option S) → IfSome a P → IfSome a Q → IfSome a (λ s. P s × Q s)
  facts_both P Q None p q = tt
  facts_both P Q (Some s) p q = (p, q)

  -- two facts of the record
  pub where_both : {P Q : S → Type 0} {a : Option S} → WhereTold a P → WhereTold a Q → WhereTold a (λ s. P s × Q s)
  where_both {P = P} {Q = Q} {a = a} p q = record { is = facts_both P Q a p.is q.is }

  related_both : (R Q : S → S → Type 0) (a b : Option S) → BothBy R a b → BothBy Q a b → BothBy (λ s t. R s t × Q s t) a b
  related_both R Q None None m n = tt
  related_both R Q (Some s) (Some t) m n = (m, n)
  related_both R Q None (Some t) m n = m
  related_both R Q (Some s) None m n = m

  -- two clauses of one call
  pub moves_both : {R Q : S → S → Type 0} {a b : Option S} → Moves a b R → Moves a b Q → Moves a b (λ s t. R s t × Q s t)
  moves_both {R = R} {Q = Q} {a = a} {b = b} m n = record { told = related_both R Q a b m.told n.told }

  with_end : (P : S → Type 0) (R : S → S → Type 0) (a b : Option S) → BothBy R a b → IfSome b P → BothBy (λ s t. R s t × P t) a b
  with_end P R None None m p = tt
  with_end P R (Some s) (Some t) m p = (m, p)
  with_end P R None (Some t) m p = m
  with_end P R (Some s) None m p = m

  -- what is known at the end
  pub moves_ends : {P : S → Type 0} {R : S → S → Type 0} {a b : Option S} → Moves a b R → WhereTold b P → Moves a b (λ s t. R s t × P t)
  moves_ends {P = P} {R = R} {a = a} {b = b} m p = record { told = with_end P R a b m.told p.is }
