-- What holds of each term of a narration, and so of each term of its protocol.
use Rattle.std.proofs.Common.{List, [], ◌∷◌, map, Bool, true, false, cond}
use Rattle.std.specs.List.{AllByRecursion, flat_map}
use Rattle.std.specs.Str.{bytes_eq}
use Rattle.std.proofs.Common.{ℕ}
use Rattle.anb_lemmas.proofs.Each.{each_in_both, each_in_parts}
use Rattle.anb_format.specs.Formats.{FormatValue}
use Rattle.anb_term.specs.Tree as term
use Rattle.anb_syntax.specs.Grammar.{Tree, Trees, none, more, list_of, KnowItem, ActionItem}
use Rattle.anb_protocol.specs.declared.parts.Atom.{Atom}
use Rattle.anb_protocol.specs.Protocols.{resolved, resolved_all, line_of, action_of}
use Rattle.anb_protocol.specs.Plans.{messages}
use Rattle.anb_protocol.proofs.KnowLemmas.{all_of}

module _ (all : List Atom) (formats : List FormatValue) (P : Tree → Type 0) (Q : term.Tree → Type 0) (passes : (t : Tree) → P t → Q (resolved all formats t)) where
  listed : (ts : Trees) → AllByRecursion P (list_of ts) → AllByRecursion Q (term.list_of (resolved_all all formats ts))
  listed none a = tt
  listed (more t ts) a = (passes t a.0, listed ts a.1)

  on_line : (ks : List KnowItem) (role : List ℕ) → AllByRecursion P (flat_map (λ (k : KnowItem). list_of k.terms) ks) → AllByRecursion P (list_of (line_of ks role))
  on_line [] role a = tt
  on_line (k ∷ ks) role a =
      let h = each_in_parts P (list_of k.terms) (flat_map (λ (k : KnowItem). list_of k.terms) ks) a in
      choose (bytes_eq k.role role) h.0 (on_line ks role h.1)
    where
      choose : (b : Bool) → AllByRecursion P (list_of k.terms) → AllByRecursion P (list_of (line_of ks role)) → AllByRecursion P (list_of (cond b k.terms (line_of ks role)))
      choose true x y = x
      choose false x y = y

  pub of_knowledge : (ks : List KnowItem) (names : List (List ℕ)) → AllByRecursion P (flat_map (λ (k : KnowItem). list_of k.terms) ks)
      → AllByRecursion Q (all_of (map (λ role. term.list_of (resolved_all all formats (line_of ks role))) names))
  of_knowledge ks [] a = tt
  of_knowledge ks (x ∷ names) a =
      each_in_both Q (term.list_of (resolved_all all formats (line_of ks x))) (all_of (map (λ role. term.list_of (resolved_all all formats (line_of ks role))) names))
      (listed (line_of ks x) (on_line ks x a)) (of_knowledge ks names a)

  pub of_messages : (names : List (List ℕ)) (acts : List ActionItem) → AllByRecursion P (map (λ (a : ActionItem). a.message) acts) → AllByRecursion Q (messages (map (action_of all formats names) acts))
  of_messages names [] a = tt
  of_messages names (x ∷ acts) a = (passes x.message a.0, of_messages names acts a.1)
