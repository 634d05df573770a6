use Rattle.std.proofs.Common.{◌≡◌, ℕ, ◌≤◌, List, ◌∷◌, ◌++◌, Some, None, refl, sym, ap, ◌∙◌, subst, arith}
use Rattle.std.specs.Prelude.{option_map}
use Rattle.anb_base.specs.declared.TheConstants.{ARRIVAL, WIDE}
use Rattle.anb_term.specs.Tree.{Tree, trees_of, tree_size, AreFormed}
use Rattle.anb_term.specs.Agree.{HasRecipe}
use Rattle.anb_term.specs.View.{tree_of}
use Rattle.anb_algebra.specs.ByteMeaning.{has_operator}
use Rattle.anb_close.specs.Entries.{rows}
use Rattle.anb_close.specs.Rows.{made_for}
use Rattle.anb_close.specs.MadeView.{made_tree}
use Rattle.anb_close.proofs.Rows.{made_small}
use Rattle.anb_close.proofs.Finding.{rows_length}
use Rattle.anb_close.proofs.Sound.{no_recipe, some_recipe}
use Rattle.anb_code.specs.declared.instr.Instr.TheVariants.{Send}
use Rattle.anb_protocol.specs.Plans.{to_send}
use Rattle.anb_compile.specs.Writing.{IsOver}
use Rattle.anb_compile.proofs.Writing.{texts_put}
use Rattle.anb_compile.proofs.Opened.{made_over}
use Rattle.anb_compile.specs.Verifying.{IsNarrow}
use Rattle.anb_compile.proofs.Narrow.{made_narrow}
use Rattle.anb_compile.proofs.Events.{has_next, formed_any, formed_next, formed_labels}
use Rattle.anb_compile.specs.Once.{subterms_in, AllAmong}
use Rattle.anb_compile.proofs.Sharing.{made_chosen, plan_among}
use Rattle.anb_compile.proofs.Doing.{message_fits, message_sent}
use Rattle.anb_compile.proofs.emission.Emission.send.Goals as goal

pub compose-requires : goal.compose-requires
compose-requires c =
    let r = c.requires in
    formed_any (has_operator r.0.formats) _ (formed_next (has_operator r.0.formats) r.1 r.2 (to_send c.args.action (tree_of c.args.term.now)) r.3.formed)

pub compose-requires-in-Some-clause-room : goal.compose-requires-in-Some-clause-room
compose-requires-in-Some-clause-room c =
    let r = c.requires in
    let e = to_send c.args.action (tree_of c.args.term.now) in
    let size = has_next (λ t. tree_size t ≤ 1024) r.1 r.2 e r.3.small in
    let es = c.args.self.now.basis.0 in
    let u = tree_of c.args.term.now in
    let made : made_for (rows es) u ≡ Some (made_tree c.in-Some.made) = ap (λ q. made_for (rows q) u) (sym c.closure.ensures) ∙ sym c.in_ok-compose.ensures.chosen ∙ ap (option_map made_tree) c.in-Some.is in
    let small = made_small (rows es) u (made_tree c.in-Some.made) made in
    let most = message_fits r.0 r.1 r.2 e c.args.self.now r.3 r.4 c.tell_basis.ensures.few in
    omega (arith, most, small, size)

pub compose-requires-in-Some-clause-over : goal.compose-requires-in-Some-clause-over
compose-requires-in-Some-clause-over c =
    let r = c.requires in
    let x = c.args.self.now in
    let es = x.basis.0 in
    let has = has_operator r.0.formats in
    let u = tree_of c.args.term.now in
    let e = to_send c.args.action u in
    let made : made_for (rows es) u ≡ Some (made_tree c.in-Some.made) =
    ap (λ q. made_for (rows q) u) (sym c.closure.ensures) ∙ sym c.in_ok-compose.ensures.chosen ∙ ap (option_map made_tree) c.in-Some.is in
    let over = made_over has (rows es) u (made_tree c.in-Some.made) made (formed_next has r.1 r.2 e r.3.formed) in
    let P : ℕ → Type 0 = λ k. IsOver has k (made_tree c.in-Some.made) in
    (has, subst P (rows_length es ∙ sym r.4.placed) over)

pub returns-in-None-clause-blocks : goal.returns-in-None-clause-blocks
returns-in-None-clause-blocks c =
    let u = tree_of c.args.term.now in
    let es = c.args.self.now.basis.0 in
    let none : made_for (rows es) u ≡ None = ap (λ q. made_for (rows q) u) (sym c.closure.ensures) ∙ sym c.in_ok-compose.ensures.chosen ∙ ap (option_map made_tree) c.in-None.is in (
      refl,
      u,
      refl,
      λ k before after plan done.
          let P : List Tree → Type 0 = λ l. HasRecipe (has_operator k.formats) l u → ⊥ in
          subst P done.labels (no_recipe (has_operator k.formats) es u c.tell_basis.ensures.known none),
    )

pub returns-in_ok-send-in-Some-clause-texts : goal.returns-in_ok-send-in-Some-clause-texts
returns-in_ok-send-in-Some-clause-texts c =
    texts_put c.compose-in-Some.new.self.code.items c.send.new.self.code.items (Send c.in_ok-register-in-Some.register) c.in_ok-send-in-Some.ensures.code refl ∙ c.in_ok-register-in-Some.ensures.texts

pub returns-in_ok-send-in-Some-clause-does : goal.returns-in_ok-send-in-Some-clause-does
returns-in_ok-send-in-Some-clause-does c k before after plan done =
    let x = c.args.self.now in
    let es = x.basis.0 in
    let has = has_operator k.formats in
    let u = tree_of c.args.term.now in
    let m = made_tree c.in-Some.made in
    let e = to_send c.args.action u in
    let made : made_for (rows es) u ≡ Some m = ap (λ q. made_for (rows q) u) (sym c.closure.ensures) ∙ sym c.in_ok-compose.ensures.chosen ∙ ap (option_map made_tree) c.in-Some.is in
    let formed = formed_next has before after e plan.formed in
    let P : ℕ → Type 0 = λ n. IsOver has n m in
    let over = subst P (rows_length es ∙ sym done.placed) (made_over has (rows es) u m made formed) in
    let F : List Tree → Type 0 = λ q. AreFormed has (trees_of q) in
    let labels = subst F (sym done.labels) (formed_labels has before (e ∷ after) plan.formed) in
    let size = has_next (λ t. tree_size t ≤ 1024) before after e plan.small in
    let small : tree_size m ≤ tree_size u = made_small (rows es) u m made in
    let narrow = made_narrow ARRIVAL WIDE k.formats has (rows es) u m made formed (has_next (IsNarrow k.formats) before after e plan.narrow) in
    let gives = some_recipe has es u m c.tell_basis.ensures.known labels formed made in
    let among = has_next (AllAmong (subterms_in k)) before after e (plan_among k (before ++ (e ∷ after)) plan.events) in
    let chosen = made_chosen (subterms_in k) (rows es) u m made among in
    let r = c.in_ok-register-in-Some in
    let s = c.in_ok-send-in-Some.ensures in
    message_sent k before after c.args.action u x plan done c.tell_basis.ensures
    m c.compose-in-Some.new.self c.send.new.self r.register gives over r.ensures.composes r.ensures.places narrow.1 (omega (arith, small, size)) r.ensures.lays r.ensures.grows s.code s.next s.places s.built r.ensures.shares chosen
