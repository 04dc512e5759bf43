-- One turn, from what its kind does.
use Rattle.std.proofs.Common.{◌≡◌, ℕ, suc, List, [], ◌∷◌, Err, refl, sym, ◌∙◌, ap, subst, arith}
use Rattle.std.specs.Prelude.{All}
use Rattle.outside.specs.History.{History}
use Rattle.settings_tree.specs.Content.{Contents}
use Rattle.settings_machine.specs.World.{Image, Work, rendered}
use Rattle.settings_machine.specs.Step.{Command}
use Rattle.settings_machine.specs.declared.cause.Cause.TheVariants as cause
use Rattle.affected_apply.specs.declared.outcome.Turn.{Turn}
use Rattle.affected_apply.specs.declared.outcome.Turn.TheVariants as turn
use Rattle.affected_apply.specs.Turning.{fine, Puts, Renders, FirstRenders, ByImage, FailsFirst, TurnWrites, Advances, MayFail}
use Rattle.affected_apply.specs.Parts.{FilesAdvance, FilesByImage, FilesWrite, CommandsAdvance}

-- ---- a file is next

-- What is rendered.
pub files_image : (I : Image) (live : Contents) (w : Work) (fs : List (List ℕ)) → w.files ≡ fs → (t : Turn) (new : List (List ℕ))
    → FilesAdvance fs t new → FilesByImage I live fs t → ByImage I live w t
files_image I live w [] e t new a h = absurd h
files_image I live w (f ∷ fs) e (turn.Wrote file) new a h = subst (Renders I live) (sym a.0) h
files_image I live w (f ∷ fs) e (turn.Failed cause.Disk) new a h = subst (FirstRenders I live) (sym e) h
files_image I live w (f ∷ fs) e (turn.Failed (cause.Render name error)) new a h = subst (λ (n : List ℕ). rendered I n live ≡ Err error) (sym a.0.0) h
files_image I live w (f ∷ fs) e (turn.Failed (cause.Spawn service)) new a h = tt
files_image I live w (f ∷ fs) e (turn.Failed (cause.Status service number)) new a h = tt
files_image I live w (f ∷ fs) e (turn.Failed cause.Memory) new a h = tt
files_image I live w (f ∷ fs) e (turn.Ran service index) new a h = tt
files_image I live w (f ∷ fs) e turn.Done new a h = tt

-- What becomes of the disk.
pub files_disk : (I : Image) (live : Contents) (w : Work) (fs : List (List ℕ)) → w.files ≡ fs → (t : Turn) (new : List (List ℕ))
    → FilesAdvance fs t new → (before after : History) → FilesWrite I live fs t before after → TurnWrites I live w t before after
files_disk I live w [] e t new a before after h = absurd h
files_disk I live w (f ∷ fs) e (turn.Wrote file) new a before after h = subst (λ (n : List ℕ). Puts I live n fine before after) (sym a.0) h
files_disk I live w (f ∷ fs) e (turn.Failed cause.Disk) new a before after h = subst (λ (l : List (List ℕ)). FailsFirst I live l before after) (sym e) h
files_disk I live w (f ∷ fs) e (turn.Failed (cause.Render name error)) new a before after h = h
files_disk I live w (f ∷ fs) e (turn.Failed (cause.Spawn service)) new a before after h = h
files_disk I live w (f ∷ fs) e (turn.Failed (cause.Status service number)) new a before after h = h
files_disk I live w (f ∷ fs) e (turn.Failed cause.Memory) new a before after h = h
files_disk I live w (f ∷ fs) e (turn.Ran service index) new a before after h = absurd h
files_disk I live w (f ∷ fs) e turn.Done new a before after h = absurd h

-- ---- a command is next

-- What is left to do.
pub commands_advance : (w : Work) (cs : List Command) → w.files ≡ [] → w.commands ≡ cs → (t : Turn) (new : List Command)
    → CommandsAdvance cs t new → Advances w t (record w { commands = new })
commands_advance w [] no_file e t new a = absurd a
commands_advance w (c ∷ cs) no_file e (turn.Wrote file) new a = absurd a
commands_advance w (c ∷ cs) no_file e turn.Done new a = absurd a
commands_advance w (c ∷ cs) no_file e (turn.Ran service index) new a = record {
  words = c.1.1;
  no_file = no_file;
  next = e ∙ sym (ap (λ (s : List ℕ). (s, (index, c.1.1)) ∷ new) a.0 ∙ ap (λ (i : ℕ). (c.0, (i, c.1.1)) ∷ new) a.1 ∙ ap (λ (l : List Command). c ∷ l) a.2);
  others = refl;
}
commands_advance w (c ∷ cs) no_file e (turn.Failed why) new a = record {
  may = subst (λ (fs : List (List ℕ)). MayFail fs w.commands why) (sym no_file) (subst (λ (l : List Command). MayFail [] l why) (sym e) a.0);
  same = ap (λ (l : List Command). record w { commands = l }) (a.1 ∙ sym e);
}

-- ---- each turn

-- What is still to do has what all that was to do had.
pub known_left : (P : List ℕ → Type 0) (w : Work) (t : Turn) (left : Work) → Advances w t left → All P w.files → All P left.files
known_left P w (turn.Wrote file) left a all = λ k d below. subst (All P) a.next all (suc k) d (omega arith)
known_left P w (turn.Ran service index) left a all = subst (λ (x : Work). All P x.files) (sym a.others) all
known_left P w turn.Done left a all = subst (λ (x : Work). All P x.files) (sym a.same) all
known_left P w (turn.Failed c) left a all = subst (λ (x : Work). All P x.files) (sym a.same) all
