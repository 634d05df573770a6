-- The text of a term, operand by operand.
use Rattle.std.proofs.Common.{◌≡◌, ℕ, zero, suc, ◌<◌, List, [], ◌∷◌, ◌++◌, length, map, drop, get_or, sym, subst, arith, refl, Bool, cond}
use Rattle.anb_term.specs.declared.term.Op.{Op}
use Rattle.anb_term.specs.declared.term.Op.TheVariants.{Hash, Mac, Seal, Wrap, Format}
use Rattle.anb_term.specs.declared.term.Term.{Term}
use Rattle.anb_term.specs.Operator.{arity}
use Rattle.anb_term.specs.Tree.{node, Trees, none, more, trees_of, list_of}
use Rattle.anb_term.specs.View.{tree_of}
use Rattle.anb_syntax.specs.Words.{close_sign}
use Rattle.anb_syntax.specs.Grammar as grammar
use Rattle.anb_syntax.specs.Grammar.{spell_tree, spell_trees, spell_others}
use Rattle.anb_syntax.specs.Canon.{words_bytes}
use Rattle.anb_protocol.specs.Protocols.{ProtocolValue}
use Rattle.anb_protocol.specs.Texts.{spelled_all, term_text, op_text, operands_text, IsTermOf, AreTermsOf}

-- an operator before its operands
pub node_text : (p : ProtocolValue) (o : Op) (ts : Trees) → length (list_of ts) ≡ arity o → term_text p (node o ts) ≡ op_text p o ++ operands_text p ts
node_text p Hash (more t none) h = refl
node_text p Mac (more t (more u none)) h = refl
node_text p Seal (more t (more u none)) h = refl
node_text p Wrap (more t (more u (more v none))) h = refl
node_text p (Format i a) ts h = refl
node_text p _ _ h = absurd (omega (arith, h))

-- a term of a list
pub term_at : (p : ProtocolValue) (ts : List Term) (i : ℕ) (t : Term) → i < length ts → t ≡ get_or ts i t → AreTermsOf p (trees_of (map tree_of ts)) → IsTermOf p (tree_of t)
term_at p [] i t h e all = absurd (omega arith)
term_at p (u ∷ ts) zero t h e all = let P : Term → Type 0 = λ v. IsTermOf p (tree_of v) in subst P (sym e) all.0
term_at p (u ∷ ts) (suc i) t h e all = term_at p ts i t (omega arith) e all.1

abbrev pub rest_of : ProtocolValue → List Term → ℕ → grammar.Trees
rest_of p ts i = spelled_all p (trees_of (map tree_of (drop i ts)))

abbrev pub left : ProtocolValue → List Term → Bool → ℕ → List ℕ
left p ts first i = words_bytes (cond first (spell_trees close_sign (rest_of p ts i)) (spell_others close_sign (rest_of p ts i)))
