-- From a verdict to what `check` does.
use Rattle.std.proofs.Common.{◌≡◌, ◌⊎◌, ℕ, ◌+◌, Bool, true, false, List, [], ◌∷◌, take, Option, Some, None, refl, ap, sym, ◌∙◌, subst, inl, inr}
use Rattle.anb_base.specs.Moves.{Put}
use Rattle.anb_base.proofs.Moving.{put_nothing}
use Rattle.anb_read.specs.Laws.{NarrationsAreUnique, RefusalsAreUnique, NoneIsBoth}
use Rattle.anb_read.specs.declared.refusal.ReadNo.{ReadNo}
use Rattle.anb_outcomes.specs.declared.choices.BranchNo.{BranchNo}
use Rattle.anb_choice.specs.Branching.{choice_fault}
use Rattle.anb_choice.specs.Laws.{ArmTextsAreUnique, ChoicesAreUnique, NoneIsUntold, RefusalsAreUnique as BranchRefusalsAreUnique}
use Rattle.anb_choice.proofs.Faults.{lawful_fault, untold_refusal}
use Rattle.anb_command.specs.declared.limits.TheConstants.{NARRATION_LIMIT}
use Rattle.anb_status.specs.declared.status.Status.{Status}
use Rattle.anb_status.specs.declared.status.Status.TheVariants.{Done, FileFault, FileLong, Unreached, WriteFault, NoMemory}
use Rattle.anb_command.specs.Fetches.{Files, IfTold}
use Rattle.anb_command.specs.Files.{FileIs, HasFile, HasLonger, NarrationIs, ProtocolIs}
use Rattle.anb_command.specs.Roles.{SendableOf}
use Rattle.anb_status.specs.Statuses.{is_fault}
use Rattle.anb_command.specs.Steps.{HasOneAnswer, IsFailure, refused, given}
use Rattle.anb_command.specs.Writing.{IsWritten}
use Rattle.anb_command.proofs.Chains.{told_map}
use Rattle.anb_command.proofs.Ones.{file_one, is_one, narration_one, not_both, protocol_one, same_given, same_refusal, send_one, then_one}
use Rattle.anb_command.proofs.Written.{faulty}
use Rattle.anb_check_commands.specs.CheckCommand.{AreArms, CompletesCheck, IsShownVerdict, IsTelling, IsVerdict, IsVerdictAt, IsVerdictOnArms, IsVerdictOnFile, IsVerdictOnPart, IsVerdictOnText, IsVerdictOnUnread, SendableOfText, Tells, first_refusal, refused_arm}
use Rattle.anb_check_commands.specs.ChoiceLines.{text_of_arm, wrong_at}
use Rattle.anb_check_commands.specs.Telling.{IsLast, IsTold, ended_by}

module _ (narrations : NarrationsAreUnique) (refusals : RefusalsAreUnique) (none : NoneIsBoth)
    (choices : ChoicesAreUnique) (no_choices : BranchRefusalsAreUnique) (arm_texts : ArmTextsAreUnique) (untold : NoneIsUntold) (narration : List ℕ) where
  text_one : (x : List ℕ) → HasOneAnswer (SendableOfText x)
  text_one x =
      then_one (NarrationIs x) _ (narration_one narrations refusals none x) (λ n.
      then_one (ProtocolIs n) SendableOf (protocol_one n) (λ p. then_one _ _ (send_one p) (λ u. is_one p)))

  same_text : (x : List ℕ) (s t : Status) (said other : List ℕ) → IsVerdictOnText narration x s said → IsVerdictOnText narration x t other → s ≡ t
  same_text x s t said other (inl (due, is)) (inl (also, js)) = same_refusal s t (text_one x (refused s) (refused t) due also)
  same_text x s t said other (inl (due, is)) (inr (p, also, done, report)) = not_both s p (text_one x (refused s) (given p) due also)
  same_text x s t said other (inr (p, due, done, report)) (inl (also, js)) = not_both t p (text_one x (refused t) (given p) also due)
  same_text x s t said other (inr (p, due, done, report)) (inr (q, also, done', report')) = done ∙ sym done'

  -- ---- texts with a choice

  same_arms : (number : ℕ) (xs : List (List ℕ)) (s t : Status) (said other : List ℕ) → AreArms narration number xs s said → AreArms narration number xs t other → s ≡ t
  same_arms number [] s t said other (done, is) (done', js) = done ∙ sym done'
  same_arms number (x ∷ xs) s t said other (own, text, later, others, on, arms, ends, is) (own', text', later', others', on', arms', ends', js) =
      ends ∙ ap (λ (o : Status). first_refusal o later) (same_text x own own' text text' on on')
      ∙ ap (first_refusal own') (same_arms (number + 1) xs later later' others others' arms arms') ∙ sym ends'

  on_arms : (x : List ℕ) (s t : Status) (said other : List ℕ) → IsVerdictOnArms narration x s said → IsVerdictOnArms narration x t other → s ≡ t
  on_arms x s t said other (texts, are, arms) (others, also, arms') =
      same_arms 1 texts s t said other arms (subst (λ (l : List (List ℕ)). AreArms narration 1 l t other) (sym (arm_texts x texts others are also)) arms')

  on_part : (x : List ℕ) (o : Option ℕ) (s t : Status) (said other : List ℕ) → IsVerdictOnPart narration x o s said → IsVerdictOnPart narration x o t other → s ≡ t
  on_part x None s t said other on on' = same_text x s t said other on on'
  on_part x (Some arm) s t said other (texts, are, on) (others, also, on') =
      same_text (text_of_arm x texts arm) s t said other on
      (subst (λ (l : List (List ℕ)). IsVerdictOnText narration (text_of_arm x l arm) t other) (sym (arm_texts x texts others are also)) on')

  on_place : (x : List ℕ) (why : ReadNo) (cause : BranchNo) (o : Option ℕ) (s t : Status) (said other : List ℕ) → IsVerdictAt narration x why cause o s said → IsVerdictAt narration x why cause o t other → s ≡ t
  on_place x why cause None s t said other on on' = on_part x (refused_arm cause) s t said other on on'
  on_place x why cause (Some at) s t said other (ends, is) (ends', is') = ends ∙ sym ends'

  on_unread : (x : List ℕ) (why : ReadNo) (s t : Status) (said other : List ℕ) → IsVerdictOnUnread narration x why s said → IsVerdictOnUnread narration x why t other → s ≡ t
  on_unread x why s t said other (inl (w, is, on)) (inl (v, js, on')) =
      on_place x why w (wrong_at x why w) s t said other on
      (subst (λ (n : BranchNo). IsVerdictAt narration x why n (wrong_at x why n) t other) (sym (no_choices x w v (untold_refusal x w is) (untold_refusal x v js))) on')
  on_unread x why s t said other (inl (w, is, on)) (inr (inl (b, v, tells, wrong, ends, text))) = absurd (untold x b w tells is)
  on_unread x why s t said other (inl (w, is, on)) (inr (inr (b, tells, lawful, arms))) = absurd (untold x b w tells is)
  on_unread x why s t said other (inr (inl (b, v, tells, wrong, ends, text))) (inl (w, is, on)) = absurd (untold x b w tells is)
  on_unread x why s t said other (inr (inl (b, w, tells, wrong, ends, text))) (inr (inl (c, v, tells', wrong', ends', text'))) = ends ∙ sym ends'
  on_unread x why s t said other (inr (inl (b, w, tells, wrong, ends, text))) (inr (inr (c, tells', lawful, arms))) =
      let e = sym wrong ∙ ap choice_fault (choices x b c tells tells') ∙ lawful_fault c lawful in cc
  on_unread x why s t said other (inr (inr (b, tells, lawful, arms))) (inl (w, is, on)) = absurd (untold x b w tells is)
  on_unread x why s t said other (inr (inr (b, tells, lawful, arms))) (inr (inl (c, w, tells', wrong, ends, text))) =
      let e = sym wrong ∙ ap choice_fault (choices x c b tells' tells) ∙ lawful_fault b lawful in cc
  on_unread x why s t said other (inr (inr (b, tells, lawful, arms))) (inr (inr (c, tells', lawful', arms'))) = on_arms x s t said other arms arms'

  same_plain : (x : List ℕ) (s t : Status) (said other : List ℕ) → IsVerdict narration x s said → IsVerdict narration x t other → s ≡ t
  same_plain x s t said other (inl (n, told, on)) (inl (m, told', on')) = same_text x s t said other on on'
  same_plain x s t said other (inl (n, told, on)) (inr (why, is, on')) = absurd (none x n why told is)
  same_plain x s t said other (inr (why, is, on)) (inl (n, told, on')) = absurd (none x n why told is)
  same_plain x s t said other (inr (why, is, on)) (inr (why', js, on')) =
      on_unread x why s t said other on (subst (λ (w : ReadNo). IsVerdictOnUnread narration x w t other) (sym (refusals x why why' is js)) on')

  same_verdict : (x : List ℕ) (s t : Status) (out other : List ℕ) → IsShownVerdict narration x s out → IsShownVerdict narration x t other → s ≡ t
  same_verdict x s t out other one two = same_plain x s t one.said two.said one.verdict two.verdict

  module _ (files : Files) where
    same_file : (x y : List ℕ) → FileIs files narration NARRATION_LIMIT (given x) → FileIs files narration NARRATION_LIMIT (given y) → x ≡ y
    same_file x y f g = same_given x y (file_one files narration NARRATION_LIMIT (given x) (given y) f g)

    same_status : (s t : Status) (out other : List ℕ) → Tells files narration s out → Tells files narration t other → s ≡ t
    same_status s t out other (inl (due, is)) (inl (also, js)) = same_refusal s t (file_one files narration NARRATION_LIMIT (refused s) (refused t) due also)
    same_status s t out other (inl (due, is)) (inr (y, g, on)) = not_both s y (file_one files narration NARRATION_LIMIT (refused s) (given y) due g)
    same_status s t out other (inr (x, f, on)) (inl (also, js)) = not_both t x (file_one files narration NARRATION_LIMIT (refused t) (given x) also f)
    same_status s t out other (inr (x, f, on)) (inr (y, g, also)) =
        same_verdict x s t out other on (subst (λ (z : List ℕ). IsShownVerdict narration z t other) (sym (same_file x y f g)) also)

    module _ (w now : Option (List ℕ)) where
      concluded : (s : Status) (out : List ℕ) → is_fault s ≡ false → Tells files narration s out → Put w now out → IsTelling files narration s w now
      concluded s out calm tells put = record {
        is = λ _. (out, tells, put);
        only = λ _ t other also. same_status s t out other tells also;
        cut_short = λ fault. faulty (sym fault ∙ calm);
      }

      unmoved : now ≡ w → Put w now []
      unmoved e = subst (λ (v : Option (List ℕ)). Put w v []) (sym e) (put_nothing w)

      by_writing : (status : Status) (said : List ℕ) → IsLast status → IsVerdictOnFile files narration status said → (writing : Status) → IsWritten said writing w now
          → IsTelling files narration (ended_by status writing) w now
      by_writing status said last on Done put = concluded status said last.calm (inr on) put
      by_writing status said last on WriteFault (n, within, put) = record { is = faulty; only = faulty; cut_short = λ _. (take n said, (status, said, on, (n, refl)), put) }
      by_writing status said last on (Unreached at) same = record { is = faulty; only = faulty; cut_short = λ _. ([], ((status, said, on), refl), unmoved same) }
      by_writing status said last on _ never = absurd never

      telling : (status : Status) (said : List ℕ) (result : Status) → IsLast status → IsVerdictOnFile files narration status said → IsTold status said result w now
          → IsTelling files narration result w now
      telling status said result last on told =
          subst (λ (t : Status). IsTelling files narration t w now) (sym told.ends) (by_writing status said last on told.writing told.writes)

    no_memory : (w : Option (List ℕ)) → IsTelling files narration NoMemory w w
    no_memory w = record { is = faulty; only = faulty; cut_short = λ _. ([], refl, put_nothing w) }

    no_file : (w : Option (List ℕ)) (s : Status) (P : List ℕ → Type 0) → IsFailure s P ((s ≡ FileLong narration) × HasLonger files narration NARRATION_LIMIT) → IsTelling files narration s w w
    no_file w (FileFault file) P fails = record { is = faulty; only = faulty; cut_short = λ _. ([], refl, put_nothing w) }
    no_file w NoMemory P fails = no_memory w
    no_file w s P (is, longer) = concluded w w s [] (ap is_fault is) (inl ((is, longer), refl)) (put_nothing w)

  -- ---- `check`

  module _ (told : Option Files) where
    pub does_told : (w now : Option (List ℕ)) (x : List ℕ) (status : Status) (said : List ℕ) (result : Status) → IfTold told (λ files. HasFile files narration NARRATION_LIMIT x)
        → IsShownVerdict narration x status said → IsLast status → IsTold status said result w now → IfTold told (λ files. IsTelling files narration result w now)
    does_told w now x status said result file verdict last is = told_map told (λ files f. telling files w now status said result last (x, f, verdict) is) file

    pub does_without_memory : (w : Option (List ℕ)) (x : List ℕ) → IfTold told (λ files. HasFile files narration NARRATION_LIMIT x) → IfTold told (λ files. IsTelling files narration NoMemory w w)
    does_without_memory w x file = told_map told (λ files f. no_memory files w) file

  pub does_without_file : (told : Option Files) (w : Option (List ℕ)) (s : Status) (P : List ℕ → Type 0) → IsFailure s P ((s ≡ FileLong narration) × IfTold told (λ files. HasLonger files narration NARRATION_LIMIT))
      → IfTold told (λ files. IsTelling files narration s w w)
  does_without_file None w s P fails = tt
  does_without_file (Some files) w s P fails = no_file files w s P fails

  -- where nothing failed
  pub completes_check : (told : Option Files) (w now : Option (List ℕ)) (s : Status) → IfTold told (λ files. IsTelling files narration s w now) → (is_fault s ≡ true → s ≡ NoMemory) → CompletesCheck narration told s
  completes_check told w now s does only_memory = told_map told (λ files tells x f. by files tells x f (is_fault s) refl) does where
    from : (files : Files) (x : List ℕ) → FileIs files narration NARRATION_LIMIT (given x) → ((out : List ℕ) × Tells files narration s out × Put w now out)
        → ((out : List ℕ) × IsShownVerdict narration x s out) ⊎ (s ≡ NoMemory)
    from files x f (out, inl (due, is), put) = not_both s x (file_one files narration NARRATION_LIMIT (refused s) (given x) due f)
    from files x f (out, inr (y, g, verdict), put) = inl (out, subst (λ (z : List ℕ). IsShownVerdict narration z s out) (same_file files y x g f) verdict)

    by : (files : Files) → IsTelling files narration s w now → (x : List ℕ) → FileIs files narration NARRATION_LIMIT (given x) → (b : Bool) → is_fault s ≡ b
        → ((out : List ℕ) × IsShownVerdict narration x s out) ⊎ (s ≡ NoMemory)
    by files tells x f true fault = inr (only_memory fault)
    by files tells x f false calm = from files x f (tells.is calm)
