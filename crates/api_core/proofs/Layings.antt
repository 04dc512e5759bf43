-- What a request makes of what is held may be laid.
use Rattle.std.proofs.Common.{◌≡◌, List, [], ◌∷◌, None, refl, sym, ap, subst, arith, ℕ}
use Rattle.std.specs.Prelude.{Contains}
use Rattle.json_trees.specs.declared.pending.Pending.{Pending}
use Rattle.settings_tree.specs.Laid.{laid, KeepsPrefixRule, NamesWeak, TellsWeak}
use Rattle.settings_tree.specs.declared.entry.Entry.{Entry}
use Rattle.settings_tree.specs.declared.entry.Entry.TheVariants.{OwedSet}
use Rattle.settings_tree.specs.declared.entry.Owed.{Owed}
use Rattle.settings_tree.specs.declared.entry.Owed.TheVariants.{All, Keys}
use Rattle.settings_tree.specs.declared.held.Held.{Held}
use Rattle.pending_tx.specs.Transactions.{pending_of, last_of, patched, committed, dropped, set_at_once, FitPairs, FitLive, FitOver}
use Rattle.typed_settings.specs.declared.row.Row.{Row}
use Rattle.settings_machine.specs.World.{Key}
use Rattle.settings_machine.specs.Typed.{first_wanted, IsTypedHeld}
use Rattle.settings_machine.proofs.Typing.{patched_typed, committed_typed, dropped_typed, set_typed}
use Rattle.settings_machine.proofs.Fitting.{fit_live, fit_over, fit_pairs}
use Rattle.pending_tx.proofs.Drops.{names_none, tells_none}
use Rattle.api_core.specs.Plans.{MayLay, IsSoundHeld}
use Rattle.api_core.specs.Planning.{all_owed}

module _ (types : List Row) (held : Held) (sound : IsSoundHeld types held) where
  module _ (change : List Entry) (weak : NamesWeak held change) (told : TellsWeak held change) where
    pub may_patch : (tx : List ℕ) (pairs : List (Key × Pending)) → first_wanted types pairs ≡ None → laid held change ≡ patched held tx pairs
        → (KeepsPrefixRule held → FitPairs (pending_of held tx) pairs → KeepsPrefixRule (laid held change)) → MayLay types held change
    may_patch tx pairs none is rule = record {
      rule = rule sound.rule (fit_pairs types sound.free held sound.typed tx pairs none);
      weak = weak;
      told = told;
      typed = subst (IsTypedHeld types) (sym is) (patched_typed types held sound.typed tx pairs none);
    }

    pub may_commit : (tx : List ℕ) → laid held change ≡ committed held tx → (KeepsPrefixRule held → FitLive held tx → KeepsPrefixRule (laid held change))
        → MayLay types held change
    may_commit tx is rule = record {
      rule = rule sound.rule (fit_live types sound.free held sound.typed tx);
      weak = weak;
      told = told;
      typed = subst (IsTypedHeld types) (sym is) (committed_typed types held sound.typed tx);
    }

    pub may_set : (pairs : List (Key × Pending)) → first_wanted types pairs ≡ None → laid held change ≡ set_at_once held pairs
        → (KeepsPrefixRule held → FitOver held (last_of pairs) → KeepsPrefixRule (laid held change)) → MayLay types held change
    may_set pairs none is rule = record {
      rule = rule sound.rule (fit_over types sound.free held sound.typed pairs none);
      weak = weak;
      told = told;
      typed = subst (IsTypedHeld types) (sym is) (set_typed types held sound.typed pairs none);
    }

    pub may_owe_all : laid held change ≡ record held { owed = All } → (KeepsPrefixRule held → KeepsPrefixRule (laid held change)) → MayLay types held change
    may_owe_all is rule = record {
      rule = rule sound.rule;
      weak = weak;
      told = told;
      typed = subst (IsTypedHeld types) (sym is) (record { settings = sound.typed.settings; pending = sound.typed.pending });
    }

    pub may_drop : (tx : List ℕ) → laid held change ≡ dropped held tx → (KeepsPrefixRule held → KeepsPrefixRule (laid held change)) → MayLay types held change
    may_drop tx is rule = record {
      rule = rule sound.rule;
      weak = weak;
      told = told;
      typed = subst (IsTypedHeld types) (sym is) (dropped_typed types held sound.typed tx);
    }

  none_weak : NamesWeak held []
  none_weak = record { may = λ weak among. absurd (none among) } where
    none : {e : Entry} → Contains {X = Entry} [] e → ⊥
    none among = omega (arith, among.1)

  -- The change after which all is owed.
  pub may_owe : (o : Owed) → held.owed ≡ o → (change : List Entry) → change ≡ all_owed o → MayLay types held change
  may_owe All same change is = subst (MayLay types held) (sym is) (may_owe_all [] none_weak (tells_none held [] (λ k. refl))
      (ap (λ (owed : Owed). let h : Held = record held { owed = owed } in h) same) (λ rule. rule))
  may_owe (Keys keys) same change is = subst (MayLay types held) (sym is)
      (may_owe_all (OwedSet All ∷ []) (names_none held (OwedSet All ∷ []) refl) (tells_none held (OwedSet All ∷ []) (λ k. refl)) refl
      (λ rule. record { live = rule.live; pending = rule.pending }))
