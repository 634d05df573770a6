use Rattle.std.specs.List.{AllByRecursion}
use Rattle.std.proofs.lemmas.List.Elements.{recursion_from_All}
use Rattle.anb_attempts.specs.declared.attempts.Attempt.{Attempt}
use Rattle.anb_probe_commands.specs.Playing.{IsPlaced}
use Rattle.std.proofs.Common.{◌≤◌, ◌<◌, ℕ, List, length, All, sym, ap, ◌∙◌, subst}
use Rattle.anb_base.specs.declared.TheConstants.{ARRIVAL}
use Rattle.anb_partner.specs.Values.{handed_values, initial_values}
use Rattle.anb_probe_commands.proofs.Preparing.{placed_cases, same_agenda}
use Rattle.anb_probe_commands.proofs.Short.{handed_short}
use Rattle.anb_probe_commands.proofs.cases.prepare_suite.Goals as goal

pub returns : goal.returns
returns c =
    let t = c.args.task.now in
    let initial_is = c.in_ok-values.ensures.initial ∙ ap (λ vs. initial_values t.protocol vs t.seed t.role) c.as_slice-values.ensures in
    let handed_is = c.in_ok-values.ensures.handed ∙ ap (λ vs. handed_values t.protocol vs t.seed t.role) c.as_slice-values.ensures in
    record {
      suit = record {
        code = t.code;
        fits = c.requires.can.fits;
        verified = c.instrs.ensures.verified;
        suite = c.args.suite;
        is = c.requires.suite;
        partners = c.args.partners.items;
        made = c.requires.made;
        each = c.requires.each;
      };
      same = same_agenda c.args.suite.scenes.items _ _ _ _ _ _ _ _ (rw c.deref-4.ensures.value at c.in_ok-cases.ensures.cases) (rw c.deref.ensures.value at c.in_ok-untried.ensures) (rw (c.deref-3.ensures.value, c.deref-2.ensures.value) at c.case_count-count.ensures) c.is_asked-is_shown.ensures;
      can = record {
        role = c.requires.can.role;
        made = c.requires.made;
        placed = subst (AllByRecursion (IsPlaced c.args.suite.scenes.items c.args.partners.items)) (sym (rw c.deref-4.ensures.value at c.in_ok-cases.ensures.cases))
            (placed_cases c.args.suite.scenes.items c.args.partners.items c.requires.each c.args.trying.case 1 c.args.suite.attempts.items (recursion_from_All (λ (a : Attempt). a.scene < length c.args.suite.scenes.items) _ c.requires.within));
        few = c.in_ok-cases.ensures.few;
        initial = initial_is;
        handed = handed_is;
        bytes = c.in_ok-values.ensures.initial_bytes;
        initial_short = subst (All (λ (value : List ℕ). length value ≤ ARRIVAL)) (sym initial_is) (c.requires.can.short t.role c.requires.can.role);
        handed_short = subst (All (λ (value : List ℕ). length value ≤ ARRIVAL)) (sym handed_is) (handed_short t.protocol t.values t.seed c.requires.can.short t.role);
      };
    }
