-- What a lent side keeps tells all else of the spawner.
use Rattle.std.proofs.Common.{◌≡◌, ◌≢◌, ◌<◌, ◌^◌, ℕ, Bool, true, false, zero, suc, List, length, replicate, Option, Some, None, refl, sym, ap, ◌∙◌, subst, arith, inl, inr, Result}
use Rattle.std.proofs.lemmas.Bool.{cases_lt, eq-eqb}
use Rattle.std.proofs.lemmas.List.{length-replicate}
use Rattle.anb_lemmas.proofs.Numbers.{nat_eq-differs}
use Rattle.anb_base.specs.Moves.{Stamped, count_written}
use Rattle.anb_frame.specs.Answers.{Follows}
use Rattle.anb_frame.specs.Answers.{Takes as TakesFrame}
use Rattle.anb_frame.specs.Frames.{frame}
use Rattle.anb_frame.specs.Cuts.{CutLeft, Tail}
use Rattle.anb_frame.specs.declared.Taken.{Taken}
use Rattle.anb_frame.specs.declared.FrameNo.{FrameNo}
use Rattle.anb_stage.specs.Children.{Child, KeptByRead, KeptByWrite, written_to_all}
use Rattle.anb_stage.specs.Steps.{Begins, OnFrame, OthersStayBelow}
use Rattle.anb_stage.specs.Sides.{number_of, number_of_truth, with_parts, parts_below, replaced, without_output, without_input, kept_beside, beside_input, beside_output}
use Rattle.anb_stage.proofs.Begun.{begins, stamped}

abbrev Part : Type 0
Part = Option (List ℕ) × ℕ

abbrev untold : ℕ → Part
untold n = (None, n)

number_of-one : (a b : Option ℕ) → number_of a ≡ number_of b → a ≡ b
number_of-one None None e = refl
number_of-one None (Some b) e = absurd (omega (arith, e))
number_of-one (Some a) None e = absurd (omega (arith, e))
number_of-one (Some a) (Some b) e = ap Some (omega (arith, e))

truth_one : (a b : Bool) → number_of_truth a ≡ number_of_truth b → a ≡ b
truth_one false false e = refl
truth_one false true e = absurd (omega (arith, e))
truth_one true false e = absurd (omega (arith, e))
truth_one true true e = refl

same_child : (c d : Child) → c.left ≡ d.left → c.taken_at ≡ d.taken_at → c.written ≡ d.written → c.asked ≡ d.asked → c.status ≡ d.status → c.faults ≡ d.faults → c.silent ≡ d.silent → c.phase ≡ d.phase → c ≡ d
same_child c d left taken written asked status faults silent phase =
    let of : Option (List ℕ) → Option (List ℕ) → Option (List ℕ) → Option (List ℕ) → Option ℕ → ℕ → Bool → ℕ → Child =
    λ l t w a s f b p. record { left = l; taken_at = t; written = w; asked = a; status = s; faults = f; silent = b; phase = p } in
    ap (λ l. of l c.taken_at c.written c.asked c.status c.faults c.silent c.phase) left
    ∙ ap (λ t. of d.left t c.written c.asked c.status c.faults c.silent c.phase) taken
    ∙ ap (λ w. of d.left d.taken_at w c.asked c.status c.faults c.silent c.phase) written
    ∙ ap (λ a. of d.left d.taken_at d.written a c.status c.faults c.silent c.phase) asked
    ∙ ap (λ s. of d.left d.taken_at d.written d.asked s c.faults c.silent c.phase) status
    ∙ ap (λ f. of d.left d.taken_at d.written d.asked d.status f c.silent c.phase) faults
    ∙ ap (λ b. of d.left d.taken_at d.written d.asked d.status d.faults b c.phase) silent
    ∙ ap (λ p. of d.left d.taken_at d.written d.asked d.status d.faults d.silent p) phase

record Same (c d : Child) (xs ys : List Part) : Type 0 where
  child : c ≡ d
  rest : xs ≡ ys

same_parts : (c d : Child) (xs ys : List Part) → with_parts c xs ≡ with_parts d ys → Same c d xs ys
same_parts c d xs ys e =
    let l : (c.left, c.faults) ≡ (d.left, d.faults) = cc in
    let w : (c.written, number_of_truth c.silent) ≡ (d.written, number_of_truth d.silent) = cc in
    let a : (c.asked, number_of c.status) ≡ (d.asked, number_of d.status) = cc in
    let p : (c.taken_at, c.phase) ≡ (d.taken_at, d.phase) = cc in
    let left : c.left ≡ d.left = ap (λ (x : Part). x.0) l in
    let taken : c.taken_at ≡ d.taken_at = ap (λ (x : Part). x.0) p in
    let written : c.written ≡ d.written = ap (λ (x : Part). x.0) w in
    let asked : c.asked ≡ d.asked = ap (λ (x : Part). x.0) a in
    let status : c.status ≡ d.status = number_of-one c.status d.status (ap (λ (x : Part). x.1) a) in
    let faults : c.faults ≡ d.faults = ap (λ (x : Part). x.1) l in
    let silent : c.silent ≡ d.silent = truth_one c.silent d.silent (ap (λ (x : Part). x.1) w) in
    let phase : c.phase ≡ d.phase = ap (λ (x : Part). x.1) p in
    record { child = same_child c d left taken written asked status faults silent phase; rest = cc }

same_below : (n : ℕ) (f g : ℕ → Child) → parts_below n f ≡ parts_below n g → (role : ℕ) → role < n → f role ≡ g role
unfolding parts_below
same_below zero f g e role h = absurd (omega (arith, h))
same_below (suc n) f g e role h =
    let s = same_parts (f n) (g n) (parts_below n f) (parts_below n g) e in
    elim (cases_lt role n) [
      | inl below ↦ same_below n f g s.rest role below
      | inr above ↦ let r : role ≡ n = omega (arith, h, above) in rw r s.child
    ]

-- what is the same where the same is kept
record Apart (name now role role_now : ℕ) (f : Child → Child) (old new : ℕ → Child) : Type 0 where
  same_name : now ≡ name
  same_role : role_now ≡ role
  below : (other : ℕ) → other < 32 → replaced role f new other ≡ replaced role f old other

apart : (told told_now : Option (List ℕ)) (name now role role_now : ℕ) (f : Child → Child) (old new : ℕ → Child) → kept_beside told_now now role_now f new ≡ kept_beside told name role f old → Apart name now role role_now f old new
apart told told_now name now role role_now f old new e =
    let first : (told_now, now) ≡ (told, name) = cc in
    let second : untold role_now ≡ untold role = cc in
    let n : now ≡ name = ap (λ (x : Part). x.1) first in
    let r : role_now ≡ role = ap (λ (x : Part). x.1) second in
    let p : parts_below 32 (replaced role_now f new) ≡ parts_below 32 (replaced role f old) = cc in
    let q : parts_below 32 (replaced role f new) ≡ parts_below 32 (replaced role f old) = rw r at p in
    record { same_name = n; same_role = r; below = same_below 32 (replaced role f new) (replaced role f old) q }

replaced_here : (role : ℕ) (f : Child → Child) (g : ℕ → Child) → replaced role f g role ≡ f (g role)
replaced_here role f g = rw (eq-eqb role role refl) refl

replaced_there : (role other : ℕ) (f : Child → Child) (g : ℕ → Child) → other ≢ role → replaced role f g other ≡ g other
replaced_there role other f g differ = rw (nat_eq-differs other role differ) refl

module _ {S : Type 0} (child : S → ℕ → Child) where
  -- how much is written to all children, by what stands beside an output
  pub written_beside : (name role : ℕ) (x : S) → count_written (beside_output name role (child x)) ≡ written_to_all (child x)
  written_beside name role x = length-replicate (written_to_all (child x)) 0

  -- what a lent output leaves of its role's child, where x is what the lent spawner ends as
  pub kept_by_read : (name now role role_now : ℕ) (old new x : S) → role < 32
      → beside_output now role_now (child new) ≡ beside_output name role (child old)
      → (now ≡ name → x ≡ new) → KeptByRead (child old role) (child x role)
  kept_by_read name now role role_now old new x below e same =
      let a = apart (Some (replicate (written_to_all (child old)) 0)) (Some (replicate (written_to_all (child new)) 0)) name now role role_now without_output (child old) (child new) e in
      let p : without_output (child new role) ≡ without_output (child old role) =
      sym (replaced_here role without_output (child new)) ∙ a.below role below ∙ replaced_here role without_output (child old) in
      rw (same a.same_name) (record {
        written = ap (λ (c : Child). c.written) p;
        asked = ap (λ (c : Child). c.asked) p;
        status = ap (λ (c : Child). c.status) p;
        phase = ap (λ (c : Child). c.phase) p;
      })

  -- when what a lent output gives was taken, and how much is taken at most
  module _ (name now role role_now : ℕ) (old new x : S) (kept : beside_output now role_now (child new) ≡ beside_output name role (child old)) (same : now ≡ name → x ≡ new)
      (room : ℕ) (buf : List ℕ) (result : Result Taken FrameNo)
      (takes : TakesFrame (child old role).left (child new role_now).left (child old role).taken_at (child new role_now).taken_at (count_written (beside_output name role (child old))) room buf result) where
    own : Apart name now role role_now without_output (child old) (child new)
    own = apart (Some (replicate (written_to_all (child old)) 0)) (Some (replicate (written_to_all (child new)) 0)) name now role role_now without_output (child old) (child new) kept

    lent : child new role_now ≡ child x role
    lent = ap (child new) own.same_role ∙ ap (λ (s : S). child s role) (sym (same own.same_name))

    taken_by_read : TakesFrame (child old role).left (child x role).left (child old role).taken_at (child x role).taken_at (written_to_all (child old)) room buf result
    taken_by_read =
        subst (λ (n : ℕ). TakesFrame (child old role).left (child x role).left (child old role).taken_at (child x role).taken_at n room buf result) (written_beside name role old)
        (subst (λ (c : Child). TakesFrame (child old role).left c.left (child old role).taken_at c.taken_at (count_written (beside_output name role (child old))) room buf result) lent takes)

    pub stamped_by_read : OnFrame buf result (λ bytes. Stamped (child old role).taken_at (child x role).taken_at (written_to_all (child old)) (length (frame bytes)))
    stamped_by_read = stamped (child old role).left (child x role).left (child old role).taken_at (child x role).taken_at (written_to_all (child old)) room buf result taken_by_read

    pub begins_by_read : room < 2 ^ 32 → (bs : List (List ℕ)) (tail : Tail) → CutLeft room (child old role).left bs tail → Follows room bs tail (child new role_now).left buf result
        → Begins (child old role).taken_at (child x role).taken_at (written_to_all (child old)) bs tail
    begins_by_read small bs tail cut follows = begins room small (child old role).left (child x role).left (child old role).taken_at (child x role).taken_at (written_to_all (child old)) buf bs tail result cut taken_by_read
        (subst (λ (c : Child). Follows room bs tail c.left buf result) lent follows)

  pub kept_by_write : (name now role role_now : ℕ) (old new x : S) → role < 32
      → beside_input now role_now (child new) ≡ beside_input name role (child old)
      → (now ≡ name → x ≡ new) → KeptByWrite (child old role) (child x role)
  kept_by_write name now role role_now old new x below e same =
      let a = apart None None name now role role_now without_input (child old) (child new) e in
      let p : without_input (child new role) ≡ without_input (child old role) =
      sym (replaced_here role without_input (child new)) ∙ a.below role below ∙ replaced_here role without_input (child old) in
      rw (same a.same_name) (record {
        left = ap (λ (c : Child). c.left) p;
        taken_at = ap (λ (c : Child). c.taken_at) p;
        asked = ap (λ (c : Child). c.asked) p;
        status = ap (λ (c : Child). c.status) p;
        phase = ap (λ (c : Child). c.phase) p;
      })

  -- and of all others
  pub others_stay : (f : Child → Child) (told told_now : Option (List ℕ)) (name now role role_now : ℕ) (old new x : S)
      → kept_beside told_now now role_now f (child new) ≡ kept_beside told name role f (child old)
      → (now ≡ name → x ≡ new) → OthersStayBelow role (child old) (child x)
  others_stay f told told_now name now role role_now old new x e same other below differ =
      let a = apart told told_now name now role role_now f (child old) (child new) e in
      let p : child new other ≡ child old other =
      sym (replaced_there role other f (child new) differ) ∙ a.below other below ∙ replaced_there role other f (child old) differ in
      rw (same a.same_name) p
