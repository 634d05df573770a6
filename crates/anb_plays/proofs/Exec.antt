-- A run over the values of registers is the code's run.
use Rattle.std.proofs.Common.{◌≡◌, ℕ, zero, suc, ◌+◌, ◌≤◌, List, [], ◌∷◌, ◌++◌, length, take, Bool, Some, refl, sym, ap, ◌∙◌, subst, inl, inr, ◌⊎◌, arith, length-append}
use Rattle.std.proofs.lemmas.List.{take_all}
use Rattle.anb_lemmas.proofs.Lists.{get_last, take_suc_got}
use Rattle.anb_term.specs.declared.term.Op.{Op}
use Rattle.anb_term.specs.Lawful.{Lawful}
use Rattle.anb_term.specs.Value.{Meaning, RecipeTree, label, recipe_trees, values}
use Rattle.anb_term.proofs.Lists.{slice_get-there}
use Rattle.anb_term.proofs.Frames.{values_more}
use Rattle.anb_plays.specs.Plays.{says}
use Rattle.anb_plays.specs.Codes.{Act, takes, draws, receives, sends, works, Work, writes}
use Rattle.anb_plays.specs.Runs.{run_from}
use Rattle.anb_plays.specs.Exec.{exec, IsVerified, count_written, NoTakes, HasTakes}
use Rattle.anb_plays.specs.Statements.{ExecIsRun}
use Rattle.anb_plays.proofs.Registers.{values_join, register, Fails, Works, work}

-- the recipes of the first labels
labels : ℕ → List RecipeTree
labels zero = []
labels (suc k) = labels k ++ label k ∷ []

length-labels : (k : ℕ) → length (labels k) ≡ k
unfolding labels
length-labels zero = refl
length-labels (suc k) = omega (arith, length-append (labels k) (label k ∷ []), length-labels k)

module _ {A : Type 0} (m : Meaning A) (lawful : Lawful m) (draw : ℕ → A) where
  labelled : (regs : List RecipeTree) (vs table : List A) (x : A) → values m vs (recipe_trees regs) ≡ Some table
      → values m (vs ++ x ∷ []) (recipe_trees (regs ++ label (length vs) ∷ [])) ≡ Some (table ++ x ∷ [])
  labelled regs vs table x e =
      values_join m (vs ++ x ∷ []) regs (label (length vs) ∷ []) table (x ∷ []) (values_more m vs (x ∷ []) (recipe_trees regs) table e) (rw (get_last vs x) refl)

  exec_work : (acts : List Act) (w : Work) (regs : List RecipeTree) (vs table : List A) (e at i : ℕ) (arrivals : List A) → values m vs (recipe_trees regs) ≡ Some table
      → IsVerified m.has acts (length table + count_written w)
      → ((ws : List A) → values m vs (recipe_trees (regs ++ writes regs w)) ≡ Some (table ++ ws) → IsVerified m.has acts (length (table ++ ws))
      → exec m draw acts (table ++ ws) e (at + 1) i arrivals ≡ run_from m draw acts (regs ++ writes regs w) vs e (at + 1) i arrivals)
      → Fails m vs regs table w ⊎ Works m vs regs table w → exec m draw (works w ∷ acts) table e at i arrivals ≡ run_from m draw (works w ∷ acts) regs vs e at i arrivals
  exec_work acts w regs vs table e at i arrivals same verified ih (inl f) = rw (f.0, f.1) refl
  exec_work acts w regs vs table e at i arrivals same verified ih (inr k) =
      let n : length (table ++ k.0) ≡ length table + count_written w = length-append table k.0 ∙ ap (λ j. length table + j) k.4 in
      rw (k.1, k.2) (ih k.0 (values_join m vs regs (writes regs w) table k.0 same k.3) (subst (IsVerified m.has acts) (sym n) verified))

  exec_is : (acts : List Act) (regs : List RecipeTree) (vs table : List A) (e at i : ℕ) (arrivals : List A) → values m vs (recipe_trees regs) ≡ Some table
      → NoTakes m.has acts → IsVerified m.has acts (length table) → exec m draw acts table e at i arrivals ≡ run_from m draw acts regs vs e at i arrivals
  exec_is [] regs vs table e at i arrivals same none verified = refl
  exec_is (takes ∷ acts) regs vs table e at i arrivals same none verified = absurd none
  exec_is (draws ∷ acts) regs vs table e at i arrivals same none verified =
      exec_is acts (regs ++ label (length vs) ∷ []) (vs ++ draw i ∷ []) (table ++ draw i ∷ []) e (at + 1) (i + 1) arrivals (labelled regs vs table (draw i) same)
      none (subst (IsVerified m.has acts) (sym (length-append table (draw i ∷ []))) verified)
  exec_is (receives ∷ acts) regs vs table e at i [] same none verified = refl
  exec_is (receives ∷ acts) regs vs table e at i (x ∷ arrivals) same none verified =
      exec_is acts (regs ++ label (length vs) ∷ []) (vs ++ x ∷ []) (table ++ x ∷ []) (e + 1) (at + 1) i arrivals (labelled regs vs table x same)
      none (subst (IsVerified m.has acts) (sym (length-append table (x ∷ []))) verified)
  exec_is (sends n ∷ acts) regs vs table e at i arrivals same none verified =
      let x = slice_get-there table n verified.0 in
      let ih = exec_is acts regs vs table (e + 1) (at + 1) i arrivals same none verified.1 in
      rw (x.1, register m vs regs table n x.0 same x.1) (ap (says x.0) ih)
  exec_is (works w ∷ acts) regs vs table e at i arrivals same none verified =
      exec_work acts w regs vs table e at i arrivals same verified.1
      (λ ws joined verified_after. exec_is acts (regs ++ writes regs w) vs (table ++ ws) e (at + 1) i arrivals joined none verified_after)
      (work m vs lawful regs table same w verified.0)

  label_values : (vs : List A) (k : ℕ) → k ≤ length vs → values m vs (recipe_trees (labels k)) ≡ Some (take k vs)
  unfolding labels
  label_values vs zero h = refl
  label_values vs (suc k) h =
      let x = slice_get-there vs k (omega arith) in
      values_join m vs (labels k) (label k ∷ []) (take k vs) (x.0 ∷ []) (label_values vs k (omega arith)) (rw x.1 refl) ∙ ap Some (sym (take_suc_got vs k x.0 x.1))

  begun : (acts : List Act) (k : ℕ) (init : List A) (at : ℕ) (arrivals : List A) → k ≡ length init → IsVerified m.has acts (length init) → NoTakes m.has acts
      → exec m draw acts init 0 at 0 arrivals ≡ run_from m draw acts (labels k) init 0 at 0 arrivals
  begun acts k init at arrivals n verified none =
      exec_is acts (labels k) init init 0 at 0 arrivals (label_values init k (omega arith) ∙ ap Some (take_all k init (omega arith))) none verified

  starts : (acts : List Act) (k : ℕ) (init : List A) (at : ℕ) (arrivals : List A) → HasTakes m.has acts k (length init)
      → exec m draw acts init 0 at 0 arrivals ≡ run_from m draw acts (labels k) init 0 at 0 arrivals
  unfolding labels
  starts (takes ∷ acts) k init at arrivals h =
      let ih = starts acts (suc k) init (at + 1) arrivals h in
      let P : ℕ → Type 0 = λ n. exec m draw acts init 0 (at + 1) 0 arrivals ≡ run_from m draw acts (labels k ++ label n ∷ []) init 0 (at + 1) 0 arrivals in
      subst P (sym (length-labels k)) ih
  starts acts k init at arrivals h = begun acts k init at arrivals h.0 h.1 h.2

pub exec_is_run : {A : Type 0} (m : Meaning A) → Lawful m → ExecIsRun m
unfolding labels
exec_is_run m lawful draw code init arrivals h = starts m lawful draw code 0 init 0 arrivals h

-- a code with its takes first is verified, with their registers written
pub takes_ready : (has : Op → Bool) (acts : List Act) (k n : ℕ) → HasTakes has acts k n → IsVerified has acts n
takes_ready has (takes ∷ acts) k n h = takes_ready has acts (suc k) n h
takes_ready has acts k n h = h.1
