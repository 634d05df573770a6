-- A lawful algebra whose checks hold agrees.
use Rattle.std.proofs.Common.{◌≡◌, List, length, IsTrue}
use Rattle.std.proofs.lemmas.List.Elements.{All-from_recursion}
use Rattle.anb_term.specs.Tree.{Tree, IsFormed}
use Rattle.anb_term.specs.Value.{Meaning}
use Rattle.anb_term.specs.Lawful.{Lawful}
use Rattle.anb_term.specs.Agree.{Agree}
use Rattle.anb_term.specs.Composes.{Composes}
use Rattle.anb_basis.specs.Chosen.{Checked, chosen, terms_in}
use Rattle.anb_basis.proofs.FromFacts.{agree}
use Rattle.anb_basis.proofs.Chosen.{facts}

pub enough : {A : Type 0} (m : Meaning A) → Lawful m → (frame : List Tree) (vs : List A) (es : List (Tree × A)) (d : A) → length vs ≡ length frame → Checked m d frame vs es → Agree m frame vs
enough m lawful frame vs es d long checked =
    agree m frame vs (λ t. IsFormed m.has t × Composes (terms_in es) t) (chosen m d es) (facts m d (λ o ks ps h u whole count vk vp.
    lawful.undone_of o ks ps u h count whole (All-from_recursion (λ x. IsTrue (m.is_value x)) ks vk) (All-from_recursion (λ x. IsTrue (m.is_value x)) ps vp)) frame vs es checked) long
