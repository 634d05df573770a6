use Rattle.std.proofs.Common.{◌≡◌, ◌<◌, ◌-◌, ◌++◌, ◌∷◌, [], ℕ, List, length, sym, ap, ◌∙◌, subst, arith}
use Rattle.std.proofs.lemmas.List.Elements.{All-from_recursion}
use Rattle.std.specs.List.{AllByRecursion}
use Rattle.anb_lemmas.proofs.Results.{on_ok_map}
use Rattle.anb_term.specs.Operator.{arity, keys}
use Rattle.anb_certify.specs.declared.works.Job.{Job}
use Rattle.anb_certify.specs.Works.{work_of}
use Rattle.anb_certify.specs.Links.{AreLinked, HasLinked, IsToLink}
use Rattle.anb_certify.specs.Signs.{sign_of, signs_in, classes_in, HasSigned}
use Rattle.anb_certify.proofs.Linking.{equal_linked, make_linked, undo_linked, make_bounds, undo_within, undo_bounds}
use Rattle.anb_certify.proofs.links.link.Goals as goal

pub link_all-requires-in-Make-clause-first : goal.link_all-requires-in-Make-clause-first
link_all-requires-in-Make-clause-first c =
    let d = c.args.d.now in
    let cs = c.args.names.now in
    let t = c.requires.to_link in
    let G : Job → Type 0 = λ j. IsToLink t.0 cs d.at (work_of j) in
    let S : List ℕ → Type 0 = λ l. HasSigned (signs_in c.args.made.now) (sign_of (classes_in c.args.made.now) c.in-Make.op l) d.at (signs_in c.sign.new.self) c.in_ok-first-in-Make.first in
    (make_bounds t.0 t.1 cs d.at c.in-Make.op c.in-Make.operands.items c.in_ok-first-in-Make.first (signs_in c.args.made.now) (signs_in c.sign.new.self) (signs_in c.args.undone.now) c.args.links.now.items
    (subst G c.in-Make.is t.2) t.3 (subst S c.deref.ensures.value c.in_ok-first-in-Make.ensures.signed)).0

pub link_all-requires-in-Make-clause-second : goal.link_all-requires-in-Make-clause-second
link_all-requires-in-Make-clause-second c =
    let d = c.args.d.now in
    let cs = c.args.names.now in
    let t = c.requires.to_link in
    let G : Job → Type 0 = λ j. IsToLink t.0 cs d.at (work_of j) in
    let S : List ℕ → Type 0 = λ l. HasSigned (signs_in c.args.made.now) (sign_of (classes_in c.args.made.now) c.in-Make.op l) d.at (signs_in c.sign.new.self) c.in_ok-first-in-Make.first in
    (make_bounds t.0 t.1 cs d.at c.in-Make.op c.in-Make.operands.items c.in_ok-first-in-Make.first (signs_in c.args.made.now) (signs_in c.sign.new.self) (signs_in c.args.undone.now) c.args.links.now.items
    (subst G c.in-Make.is t.2) t.3 (subst S c.deref.ensures.value c.in_ok-first-in-Make.ensures.signed)).1

pub sign-requires-in-Undo-clause-within : goal.sign-requires-in-Undo-clause-within
sign-requires-in-Undo-clause-within c =
    let d = c.args.d.now in
    let cs = c.args.names.now in
    let t = c.requires.to_link in
    let G : Job → Type 0 = λ j. IsToLink t.0 cs d.at (work_of j) in
    let are = c.deref-in-Undo-2.ensures.value ∙ c.in_ok-operands-in-Undo.ensures ∙ ap (λ l. l ++ c.in-Undo.of ∷ []) c.deref-in-Undo.ensures.value in
    let within = undo_within t.0 t.1 cs d.at c.in-Undo.op c.in-Undo.keys.items c.in-Undo.of (subst G c.in-Undo.is t.2) in
    let B : ℕ → Type 0 = λ n. AllByRecursion (λ i. i < n) c.deref-in-Undo-2.result.now in
    let P : List ℕ → Type 0 = λ l. AllByRecursion (λ i. i < length cs) l in
    All-from_recursion _ c.deref-in-Undo-2.result.now (subst B (sym c.requires.undone.1) (subst P (sym are) within))

pub link_all-requires-in-Undo-clause-first : goal.link_all-requires-in-Undo-clause-first
link_all-requires-in-Undo-clause-first c j less =
    let d = c.args.d.now in
    let cs = c.args.names.now in
    let t = c.requires.to_link in
    let G : Job → Type 0 = λ j. IsToLink t.0 cs d.at (work_of j) in
    let are = c.deref-in-Undo-2.ensures.value ∙ c.in_ok-operands-in-Undo.ensures ∙ ap (λ l. l ++ c.in-Undo.of ∷ []) c.deref-in-Undo.ensures.value in
    let S : List ℕ → Type 0 = λ l. HasSigned (signs_in c.args.undone.now) (sign_of (classes_in c.args.undone.now) c.in-Undo.op l) d.at (signs_in c.sign-in-Undo.new.self) c.in_ok-first-in-Undo.first in
    (undo_bounds t.0 t.1 cs d.at c.in-Undo.op c.in-Undo.keys.items c.in-Undo.of c.in_ok-first-in-Undo.first (signs_in c.args.made.now) (signs_in c.args.undone.now) (signs_in c.sign-in-Undo.new.self) c.args.links.now.items
    (subst G c.in-Undo.is t.2) t.3 (subst S are c.in_ok-first-in-Undo.ensures.signed)).0 j (omega (arith, less, c.arity.ensures, c.keys.ensures))

pub link_all-requires-in-Undo-clause-second : goal.link_all-requires-in-Undo-clause-second
link_all-requires-in-Undo-clause-second c j less =
    let d = c.args.d.now in
    let cs = c.args.names.now in
    let t = c.requires.to_link in
    let G : Job → Type 0 = λ j. IsToLink t.0 cs d.at (work_of j) in
    let are = c.deref-in-Undo-2.ensures.value ∙ c.in_ok-operands-in-Undo.ensures ∙ ap (λ l. l ++ c.in-Undo.of ∷ []) c.deref-in-Undo.ensures.value in
    let S : List ℕ → Type 0 = λ l. HasSigned (signs_in c.args.undone.now) (sign_of (classes_in c.args.undone.now) c.in-Undo.op l) d.at (signs_in c.sign-in-Undo.new.self) c.in_ok-first-in-Undo.first in
    (undo_bounds t.0 t.1 cs d.at c.in-Undo.op c.in-Undo.keys.items c.in-Undo.of c.in_ok-first-in-Undo.first (signs_in c.args.made.now) (signs_in c.args.undone.now) (signs_in c.sign-in-Undo.new.self) c.args.links.now.items
    (subst G c.in-Undo.is t.2) t.3 (subst S are c.in_ok-first-in-Undo.ensures.signed)).1 j (omega (arith, less, c.arity.ensures, c.keys.ensures))

pub returns-in-Equal-clause-linked : goal.returns-in-Equal-clause-linked
returns-in-Equal-clause-linked c =
    let d = c.args.d.now in
    let cs = c.args.names.now in
    let made = signs_in c.args.made.now in
    let undone = signs_in c.args.undone.now in
    on_ok_map c.link_all.result
    (λ l did seen g h.
    let G : Job → Type 0 = λ j. IsToLink did cs d.at (work_of j) in
    let R : Job → Type 0 = λ j. AreLinked did (seen ++ (d.at, work_of j) ∷ []) cs made undone c.link_all.new.links.items in
    subst R (sym c.in-Equal.is) (equal_linked did seen cs d.at c.in-Equal.a c.in-Equal.b made undone c.args.links.now.items c.link_all.new.links.items (subst G c.in-Equal.is g) h l))
    c.link_all.ensures.linked

pub returns-in_ok-first-in-Make-clause-linked : goal.returns-in_ok-first-in-Make-clause-linked
returns-in_ok-first-in-Make-clause-linked c =
    let d = c.args.d.now in
    let cs = c.args.names.now in
    let made = signs_in c.args.made.now in
    let made2 = signs_in c.sign.new.self in
    let undone = signs_in c.args.undone.now in
    let x = c.in_ok-first-in-Make.first in
    let new = c.link_all-in-Make.new.links.items in
    let S : List ℕ → Type 0 = λ l. HasSigned made (sign_of (classes_in c.args.made.now) c.in-Make.op l) d.at made2 x in
    let sg = subst S c.deref.ensures.value c.in_ok-first-in-Make.ensures.signed in
    on_ok_map c.link_all-in-Make.result
    (λ l did seen g h.
    let G : Job → Type 0 = λ j. IsToLink did cs d.at (work_of j) in
    let R : Job → Type 0 = λ j. AreLinked did (seen ++ (d.at, work_of j) ∷ []) cs made2 undone new in
    subst R (sym c.in-Make.is) (make_linked did seen cs d.at c.in-Make.op c.in-Make.operands.items x made made2 undone c.args.links.now.items new (subst G c.in-Make.is g) h sg l))
    c.link_all-in-Make.ensures.linked

pub returns-in_ok-first-in-Undo-clause-linked : goal.returns-in_ok-first-in-Undo-clause-linked
returns-in_ok-first-in-Undo-clause-linked c =
    let d = c.args.d.now in
    let cs = c.args.names.now in
    let made = signs_in c.args.made.now in
    let undone = signs_in c.args.undone.now in
    let undone2 = signs_in c.sign-in-Undo.new.self in
    let o = c.in-Undo.op in
    let x = c.in_ok-first-in-Undo.first in
    let old = c.args.links.now.items in
    let new = c.link_all-in-Undo.new.links.items in
    let are = c.deref-in-Undo-2.ensures.value ∙ c.in_ok-operands-in-Undo.ensures ∙ ap (λ l. l ++ c.in-Undo.of ∷ []) c.deref-in-Undo.ensures.value in
    let S : List ℕ → Type 0 = λ l. HasSigned undone (sign_of (classes_in c.args.undone.now) o l) d.at undone2 x in
    let sg = subst S are c.in_ok-first-in-Undo.ensures.signed in
    let count : c.arity.result - c.keys.result ≡ arity o - keys o = omega (arith, c.arity.ensures, c.keys.ensures) in
    let L : ℕ → Type 0 = λ n. HasLinked cs x d.at n old new in
    on_ok_map c.link_all-in-Undo.result
    (λ l did seen g h.
    let G : Job → Type 0 = λ j. IsToLink did cs d.at (work_of j) in
    let R : Job → Type 0 = λ j. AreLinked did (seen ++ (d.at, work_of j) ∷ []) cs made undone2 new in
    subst R (sym c.in-Undo.is) (undo_linked did seen cs d.at o c.in-Undo.keys.items c.in-Undo.of x made undone undone2 old new (subst G c.in-Undo.is g) h sg (subst L count l)))
    c.link_all-in-Undo.ensures.linked
