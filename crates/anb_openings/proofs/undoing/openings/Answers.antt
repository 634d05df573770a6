-- One instruction more: an opening behind the first arrival, or none.
use Rattle.std.proofs.Common.{◌≡◌, ◌+◌, List, [], ◌∷◌, ◌++◌, Bool, true, false, Some, refl, sym, ap, ◌∙◌, subst, arith}
use Rattle.std.specs.Prelude.{slice_get, ◌&&◌, ◌||◌}
use Rattle.std.specs.List.{All}
use Rattle.std.proofs.lemmas.Bool.{and_from}
use Rattle.std.proofs.lemmas.List.Elements.{All-from_recursion, recursion_from_All}
use Rattle.anb_lemmas.proofs.Each.{each_and_last}
use Rattle.anb_term.proofs.Lists.{slice_get-at}
use Rattle.anb_code.specs.declared.instr.Instr.{Instr}
use Rattle.anb_code.specs.Meaning.{act_of}
use Rattle.anb_openings.specs.Openings.{is_arrival, is_opening, HasOpening}
use Rattle.anb_openings.proofs.Listing.{ListedTo, one_more, none_more, is_one}
use Rattle.anb_openings.proofs.undoing.openings.Goals as goal
use Rattle.anb_openings.proofs.undoing.openings.Goals.{then-came+then-is_opening+in_ok-push, else-came, else-came-via-then-came+else-is_opening, else-came-via-else-came, then-came-2, else-came-2}

never : (b : Bool) → (b && false) ≡ false
never true = refl
never false = refl

pub loop-i-preserved : goal.loop-i-preserved
loop-i-preserved c =
    let code = c.args.code.now in
    let x = c.instr-item.result in
    let i = c.loop-i.i in
    let came = c.loop-i.came in
    let old = c.loop-i.openings.items in
    let inv = c.loop-i.invariant in
    let act = act_of code.formats x in
    let items = c.instrs-instr-items.result.now in
    let P : List Instr → Type 0 = λ l. slice_get l i ≡ Some x in
    let here = subst P c.instrs-instr-items.ensures.instrs (slice_get-at items i x (omega arith) c.instr-item.is) in
    let after : c.if-came-2.came ≡ (came || is_arrival act) = elim c.if-came-2.branch [
      | then-came-2 w ↦ (let o : (came || is_arrival act) ≡ true = ap (λ b. b || is_arrival act) w.if-came-2.true in cc (o, w.came-is, w.if-came-2.true))
      | else-came-2 w ↦ (let o : (came || is_arrival act) ≡ is_arrival act = ap (λ b. b || is_arrival act) w.if-came-2.false in cc (o, w.came-is, w.is_arrival-came.ensures code.formats))
    ] in
    record {
      are = subst (λ b. ListedTo code (i + 1) b c.if-came.openings.items) (sym after) (elim c.if-came.branch [
        | then-came+then-is_opening+in_ok-push w ↦ (
            let compares = sym (w.is_opening.ensures code.formats) ∙ w.if-is_opening.true in
            let new : c.if-came.openings.items ≡ old ++ (i + 1) ∷ [] = ap (λ v. v.items) w.openings-is ∙ w.in_ok-push.ensures.items in
            subst (ListedTo code (i + 1) (came || is_arrival act)) (sym new) (one_more code i x here came old (and_from came (is_opening act) w.if-came.true compares) inv.are)
            )
        | else-came w ↦ (
            let new : c.if-came.openings.items ≡ old = ap (λ v. v.items) w.openings-is in
            let none : (came && is_opening act) ≡ false = elim w.else-came.branch [
              | else-came-via-then-came+else-is_opening u ↦ ap (λ b. came && b) (sym (u.is_opening.ensures code.formats) ∙ u.if-is_opening.false) ∙ never came
              | else-came-via-else-came u ↦ ap (λ b. b && is_opening act) u.if-came.false
            ] in
            subst (ListedTo code (i + 1) (came || is_arrival act)) (sym new) (none_more code i x here came old none inv.are)
            )
      ]);
      each = elim c.if-came.branch [
        | then-came+then-is_opening+in_ok-push w ↦ (
            let compares = sym (w.is_opening.ensures code.formats) ∙ w.if-is_opening.true in
            let new : c.if-came.openings.items ≡ old ++ (i + 1) ∷ [] = ap (λ v. v.items) w.openings-is ∙ w.in_ok-push.ensures.items in
            subst (All (HasOpening code)) (sym new) (All-from_recursion (HasOpening code) (old ++ (i + 1) ∷ []) (each_and_last (HasOpening code) old (i + 1) (recursion_from_All (HasOpening code) old inv.each) (is_one code i x here compares)))
            )
        | else-came w ↦ (let new : c.if-came.openings.items ≡ old = ap (λ v. v.items) w.openings-is in subst (All (HasOpening code)) (sym new) inv.each)
      ];
    }
