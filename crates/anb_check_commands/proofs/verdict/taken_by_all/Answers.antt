-- One more role.
use Rattle.std.proofs.Common.{◌≡◌, ℕ, zero, suc, ◌+◌, List, [], ◌∷◌, length, Some, slice_get, sym, ap, ◌∙◌, subst, ⊎_elim, length-append}
use Rattle.anb_term.proofs.Lists.{slice_get-last}
use Rattle.anb_notes.specs.Idle.{IsNotedOf}
use Rattle.anb_pattern.specs.Taken.{TakenValue}
use Rattle.anb_check_commands.proofs.verdict.taken_by_all.Goals as goal

-- nothing is there
none_at : (role : ℕ) (t : TakenValue) → slice_get [] role ≡ Some t → ⊥
none_at zero t is = cc
none_at (suc role) t is = cc

pub loop-role-init : goal.loop-role-init
loop-role-init c =
    record {
      count = ap length c.new-out.ensures.items;
      each = λ role t e. absurd (none_at role t (ap (λ (l : List TakenValue). slice_get l role) (sym c.new-out.ensures.items) ∙ e));
    }

pub loop-role-preserved : goal.loop-role-preserved
loop-role-preserved c =
    let p = c.args.protocol.now in
    let taken : TakenValue = c.in_ok-taken.taken in
    let out = c.loop-role.out.items in
    let v = c.loop-role.invariant in
    record {
      count = ap length c.in_ok-push.ensures.items ∙ length-append out (taken ∷ []) ∙ ap (λ n. n + 1) v.count;
      each = λ role t e.
          ⊎_elim (λ h. v.each role t h) (λ (a, b). subst (λ n. IsNotedOf p n t) (sym (a ∙ v.count)) (subst (IsNotedOf p c.loop-role.role) b c.in_ok-taken.ensures))
          (slice_get-last out taken t role (ap (λ (l : List TakenValue). slice_get l role) (sym c.in_ok-push.ensures.items) ∙ e));
    }
