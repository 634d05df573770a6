use Rattle.std.proofs.Common.{◌≡◌, ◌<◌, ℕ, Option, subst, length, map, ap, sym, ◌∙◌, refl, Some}
use Rattle.std.specs.Prelude.{IfSome}
use Rattle.std.proofs.lemmas.Option.{slice_get_read}
use Rattle.anb_lemmas.proofs.Each.{each_holds}
use Rattle.anb_term.specs.View.{tree_of}
use Rattle.anb_protocol.specs.declared.refusals.ResolveNo.TheVariants.{KnowledgeTwice}
use Rattle.anb_protocol.specs.Texts.{IsTermOf}
use Rattle.anb_protocol.specs.Views.{value_of}
use Rattle.anb_protocol.proofs.Elements.{seen_as, within_map}
use Rattle.anb_protocol.proofs.KnowLemmas.{known_once, known_more}
use Rattle.anb_protocol.proofs.parts.Parts.knows_again.Goals as goal

within_some : (n : ℕ) (place : Option ℕ) (k : ℕ) → place ≡ Some k → IfSome place (λ k. k < n) → k < n
within_some n place k is within = let P : Option ℕ → Type 0 = λ o. IfSome o (λ k. k < n) in subst P is within

pub text_of_term-requires : goal.text_of_term-requires
text_of_term-requires c =
    let ts = c.args.terms.now in
    let k = c.in-Some.k in
    let t = c.index-terms-k.result in
    each_holds (IsTermOf (value_of c.args.self.now)) (map tree_of ts) k (tree_of t) (within_map tree_of ts k (within_some (length ts) c.in_ok-again.again k c.in-Some.is c.in_ok-again.ensures.within)) (seen_as tree_of ts k t c.index-terms-k.is) c.requires.terms

pub returns-in_ok-copy-in-Some : goal.returns-in_ok-copy-in-Some
returns-in_ok-copy-in-Some c =
    let p = value_of c.args.self.now in
    let role = c.args.role.now in
    let ts = c.args.terms.now in
    let k = c.in-Some.k in
    let t = c.index-terms-k.result in
    let xs = map tree_of ts in
    let at = slice_get_read xs (length xs) k (tree_of t) refl (within_map tree_of ts k (within_some (length ts) c.in_ok-again.again k c.in-Some.is c.in_ok-again.ensures.within)) (seen_as tree_of ts k t c.index-terms-k.is) in
    ap (λ x. Some (KnowledgeTwice x c.in_ok-text-in-Some.text)) c.in_ok-copy-in-Some.ensures
    ∙ ap (λ x. Some (KnowledgeTwice role x)) c.in_ok-text-in-Some.ensures
    ∙ sym (known_more p role xs k (tree_of t) (sym c.in_ok-again.ensures.place ∙ c.in-Some.is) at)

pub returns-in-None : goal.returns-in-None
returns-in-None c = sym (known_once (value_of c.args.self.now) c.args.role.now (map tree_of c.args.terms.now) (sym c.in_ok-again.ensures.place ∙ c.in-None.is))
