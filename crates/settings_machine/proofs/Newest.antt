-- The newest job of a run: what an event makes of it.
use Rattle.std.proofs.Common.{◌≡◌, ◌⊎◌, inl, inr, ℕ, zero, suc, Bool, true, false, not, ◌&&◌, if◌then◌else◌, List, [], ◌∷◌, Ok, Err, refl, sym, ◌∙◌, ap, subst}
use Rattle.settings_tree.specs.declared.entry.Owed.{Owed}
use Rattle.settings_tree.specs.declared.entry.Owed.TheVariants as owed
use Rattle.metadata_links.specs.Links.{files_of}
use Rattle.template_eval.specs.Rendered.{Rendered}
use Rattle.settings_machine.specs.declared.cause.Cause.{Cause}
use Rattle.settings_machine.specs.declared.cause.Cause.TheVariants as cause
use Rattle.settings_machine.specs.World.{Among, Image, World, Work, Job, Idle, Failed, Running, is_running, owes_none, rendered}
use Rattle.settings_machine.specs.Step.{Answer, Fine, NoRoom, FileFault, NoSpawn, SyncFault, OwedFault, begun}
use Rattle.settings_machine.specs.Step.{wrote, file_turn, Command, ended, command_turn, last_turn, after_files_turn, work_turn, job_turn, turn_next}
use Rattle.settings_machine.specs.Events.{Event, Opened, Asked, Unread, Turned, Began, Moved, Forgot, next}
use Rattle.settings_machine.specs.Jobs.{Course, has_none, run_of, is_last, ending_of, followed, begun_by, courses_by}
use Rattle.settings_machine.proofs.Restarts.{Leads, Begins, GoesOn, same_leads, noting_leads, request_leads, opening_leads}

-- ---- what is known of the newest job

-- This is known of a running job, of the world and of what was owed when the job began.
abbrev pub Tracks : (World → Owed → Work → Type 0) → World → Job → List Course → Type 0
Tracks P W Idle cs = Unit {0}
Tracks P W (Failed c) cs = Unit {0}
Tracks P W (Running w) [] = ⊥
Tracks P W (Running w) (c ∷ cs) = P W c.owed w

pub none_tracked : (P : World → Owed → Work → Type 0) (W : World) (j : Job) (cs : List Course) → is_running j ≡ false → Tracks P W j cs
none_tracked P W Idle cs rests = tt
none_tracked P W (Failed c) cs rests = tt
none_tracked P W (Running w) cs rests = absurd (cc rests)

-- A job that begins, and one that goes on.
module _ (P : World → Owed → Work → Type 0) (W N : World) where
  started : (e : Event) (j : Job) (o : Owed) (cs : List Course) (w : Work) → (is_running j ≡ false) ⊎ (is_last e j ≡ true) → P N o w
      → Tracks P N (Running w) (courses_by e j (Running w) o cs)
  started e Idle o cs w at known = known
  started e (Failed c) o cs w at known = known
  started e (Running v) o cs w (inl rests) known = absurd (cc rests)
  started e (Running v) o cs w (inr last) known =
      subst (λ (b : Bool). Tracks P N (Running w) (begun_by (Running v) (Running w) b o (followed true (run_of e (Running v)) (ending_of b (Running w)) cs)))
      (sym last) known

  stayed : (e : Event) (v w : Work) (o : Owed) (cs : List Course) → is_last e (Running v) ≡ false → ((p : Owed) → P W p v → P N p w)
      → Tracks P W (Running v) cs → Tracks P N (Running w) (courses_by e (Running v) (Running w) o cs)
  stayed e v w o [] else' step known = absurd known
  stayed e v w o (c ∷ cs) else' step known =
      subst (λ (b : Bool). Tracks P N (Running w)
      (begun_by (Running v) (Running w) b o (followed true (run_of e (Running v)) (ending_of b (Running w)) (c ∷ cs))))
      (sym else') (step c.owed known)

-- ---- what an event makes of a job

module _ (I : Image) where
  -- The job after an event has the files of what is owed then, or no more than the one before had, whose last turn this was not.
  pub data Follows (e : Event) (j : Job) (o : Owed) : Job → Type 0 where
    Idles : Follows e j o Idle
    Breaks : (c : Cause) → Follows e j o (Failed c)
    Starts : (w : Work) → (is_running j ≡ false) ⊎ (is_last e j ≡ true) → w.files ≡ files_of I.manifest o → Follows e j o (Running w)
    Stays : (v w : Work) → j ≡ Running v → is_last e j ≡ false → ((f : List ℕ) → Among w.files f → Among v.files f) → Follows e j o (Running w)

  lead_follows : (e : Event) (j k : Job) (o : Owed) → is_last e j ≡ false → Leads I j o k → Follows e j o k
  lead_follows e j Idle o else' leads = Idles
  lead_follows e j (Failed c) o else' leads = Breaks c
  lead_follows e j (Running x) o else' (Begins rests w all files) = Starts w (inl rests) files
  lead_follows e j (Running x) o else' (GoesOn v w is same files) = Stays v w is else' (λ f at. subst (λ (l : List (List ℕ)). Among l f) files at)

  -- ---- turns

  module _ (W : World) (w : Work) where
    wrote_follows : (f : List ℕ) (fs : List (List ℕ)) (status : ℕ) (r : Rendered) → w.files ≡ f ∷ fs
        → Follows (Turned (Fine status)) (Running w) (wrote I W f fs w r).held.owed (wrote I W f fs w r).job
    wrote_follows f fs status (Ok bytes) is = Stays w (record w { files = fs }) refl (ap (λ (l : List (List ℕ)). has_none l w.commands) is)
        (λ g at. subst (λ (l : List (List ℕ)). Among l g) (sym is) (inr at))
    wrote_follows f fs status (Err e) is = Breaks (cause.Render f e)

    file_follows : (f : List ℕ) (fs : List (List ℕ)) (a : Answer) → w.files ≡ f ∷ fs
        → Follows (Turned a) (Running w) (file_turn I W f fs w a).held.owed (file_turn I W f fs w a).job
    file_follows f fs (Fine status) is = wrote_follows f fs status (rendered I f W.held.live) is
    file_follows f fs NoRoom is = Breaks cause.Memory
    file_follows f fs (FileFault left) is = Breaks cause.Disk
    file_follows f fs NoSpawn is = Breaks cause.Disk
    file_follows f fs SyncFault is = Breaks cause.Disk
    file_follows f fs (OwedFault stored) is = Breaks cause.Disk

    command_follows : (c : Command) (rest : List Command) (a : Answer) → w.files ≡ [] → w.commands ≡ c ∷ rest
        → Follows (Turned a) (Running w) (command_turn W c rest w a).held.owed (command_turn W c rest w a).job
    command_follows c rest (Fine status) no_file is = by status where
      by : (n : ℕ) → Follows (Turned (Fine status)) (Running w) W.held.owed (ended c rest w n)
      by zero = Stays w (record w { commands = rest }) refl
          (ap (λ (l : List (List ℕ)). has_none l w.commands) no_file ∙ ap (has_none []) is) (λ f at. at)
      by (suc n) = Breaks (cause.Status c.0 (suc n))
    command_follows c rest NoRoom no_file is = Breaks cause.Memory
    command_follows c rest (FileFault left) no_file is = Breaks cause.Disk
    command_follows c rest NoSpawn no_file is = Breaks (cause.Spawn c.0)
    command_follows c rest SyncFault no_file is = Breaks cause.Disk
    command_follows c rest (OwedFault stored) no_file is = Breaks cause.Disk

    last_follows : (a : Answer) → w.files ≡ [] → w.commands ≡ []
        → Follows (Turned a) (Running w) (last_turn I W w a).held.owed (last_turn I W w a).job
    last_follows (Fine status) no_file no_command = by (w.again && not (owes_none (owed.Keys w.since))) where
      by : (b : Bool) → Follows (Turned (Fine status)) (Running w) (owed.Keys w.since) (if b then begun I (owed.Keys w.since) else Idle)
      by true = Starts _ (inr (ap (λ (l : List (List ℕ)). has_none l w.commands) no_file ∙ ap (has_none []) no_command)) refl
      by false = Idles
    last_follows NoRoom no_file no_command = Breaks cause.Memory
    last_follows (FileFault left) no_file no_command = Breaks cause.Disk
    last_follows NoSpawn no_file no_command = Breaks cause.Disk
    last_follows SyncFault no_file no_command = Breaks cause.Disk
    last_follows (OwedFault stored) no_file no_command = Breaks cause.Disk

    after_files_follow : (cs : List Command) (a : Answer) → w.files ≡ [] → w.commands ≡ cs
        → Follows (Turned a) (Running w) (after_files_turn I W cs w a).held.owed (after_files_turn I W cs w a).job
    after_files_follow [] a no_file is = last_follows a no_file is
    after_files_follow (c ∷ cs) a no_file is = command_follows c cs a no_file is

    work_follows : (todo : List (List ℕ)) (a : Answer) → w.files ≡ todo
        → Follows (Turned a) (Running w) (work_turn I W todo w a).held.owed (work_turn I W todo w a).job
    work_follows [] a is = after_files_follow w.commands a is refl
    work_follows (f ∷ fs) a is = file_follows f fs a is

  turn_follows : (W : World) (j : Job) (a : Answer) → W.job ≡ j → Follows (Turned a) j (job_turn I W j a).held.owed (job_turn I W j a).job
  turn_follows W Idle a is = subst (λ (k : Job). Follows (Turned a) Idle W.held.owed k) (sym is) Idles
  turn_follows W (Failed c) a is = subst (λ (k : Job). Follows (Turned a) (Failed c) W.held.owed k) (sym is) (Breaks c)
  turn_follows W (Running w) a is = work_follows W w w.files a refl

  -- ---- all events

  pub next_follows : (W : World) (e : Event) → Follows e W.job (next I W e).held.owed (next I W e).job
  unfolding turn_next
  next_follows W (Opened boot o) = lead_follows (Opened boot o) W.job _ _ refl (opening_leads I W boot o)
  next_follows W (Asked q o) = lead_follows (Asked q o) W.job _ _ refl (request_leads I W q o)
  next_follows W (Unread why) = lead_follows (Unread why) W.job _ _ refl (same_leads I W.job W.held.owed)
  next_follows W (Turned a) = turn_follows W W.job a refl
  next_follows W (Began version) = Idles
  next_follows W (Moved version held) = Idles
  next_follows W (Forgot keys) = lead_follows (Forgot keys) W.job _ _ refl (noting_leads I W.job _ _)

  -- It is known after an event where it holds of a job that begins, and of one that goes on if it did before.
  module _ (P : World → Owed → Work → Type 0) (W N : World) where
    pub tracked : (e : Event) (j k : Job) (o : Owed) (cs : List Course) → Follows e j o k
        → ((w : Work) → k ≡ Running w → w.files ≡ files_of I.manifest o → P N o w)
        → ((v w : Work) (p : Owed) → j ≡ Running v → k ≡ Running w → ((f : List ℕ) → Among w.files f → Among v.files f) → P W p v → P N p w)
        → Tracks P W j cs → Tracks P N k (courses_by e j k o cs)
    tracked e j Idle o cs follows starts stays known = tt
    tracked e j (Failed c) o cs follows starts stays known = tt
    tracked e j (Running x) o cs (Starts w at files) starts stays known = started P W N e j o cs w at (starts w refl files)
    tracked e j (Running x) o cs (Stays v w is else' fewer) starts stays known =
        subst (λ (i : Job). Tracks P N (Running w) (courses_by e i (Running w) o cs)) (sym is)
        (stayed P W N e v w o cs (ap (is_last e) (sym is) ∙ else') (λ p held. stays v w p is refl fewer held) (subst (λ (i : Job). Tracks P W i cs) is known))
