-- Not both sides of the innermost difference open.
use Rattle.std.proofs.Common.{◌≡◌, ◌≢◌, ◌<◌, ◌≤◌, ◌+◌, ◌++◌, ◌∙◌, ℕ, zero, suc, List, [], ◌∷◌, length, take, drop, Bool, true, false, cond, IsTrue, Option, Some, None, option_map, refl, sym, ap, subst, arith, length-append, length-take, length-drop}
use Rattle.std.specs.Prelude.{option_and_then, slice_get}
use Rattle.std.specs.List.{AllByRecursion}
use Rattle.std.specs.Str.{bytes_eq}
use Rattle.std.proofs.lemmas.List.Elements.{All-from_recursion, recursion_from_All}
use Rattle.anb_base.specs.Bytes.{is_bytes}
use Rattle.anb_lemmas.proofs.Each.{each_got}
use Rattle.anb_lemmas.proofs.Items.{bytes_are_one}
use Rattle.anb_format.specs.Formats.{FormatValue, pieces_at}
use Rattle.anb_format.specs.Reading.{parts_of}
use Rattle.anb_term.specs.declared.term.Op.{Op}
use Rattle.anb_term.specs.declared.term.Op.TheVariants.{Hash, Mac, Seal, Wrap, Format}
use Rattle.anb_term.specs.Lawful.{AreValues}
use Rattle.anb_term.specs.Operator.{arity, keys, undoable}
use Rattle.anb_term.specs.Tree.{Tree, node, Trees, none, more, list_of, tree_size, IsFormed, tree_eqb}
use Rattle.anb_term.specs.Value.{Meaning}
use Rattle.anb_term.proofs.Lists.{each_formed, keys_fit, size_some}
use Rattle.anb_algebra.specs.ByteLawful.{bytes_are_lawful}
use Rattle.anb_algebra.specs.ByteMeaning.{has_operator}
use Rattle.anb_code.specs.CodeValue.{CodeValue}
use Rattle.anb_machine.specs.ByteRuns.{meaning_of}
use Rattle.anb_trace.specs.Differences.{BothOpen, Difference, StandsIn, held, held_each, innermost, inward_from, opened, parsed}
use Rattle.anb_trace.specs.Inside.{first_apart, from_inner, inner_at}
use Rattle.anb_trace.specs.Laws.{InnermostStaysClosed}
use Rattle.anb_trace.proofs.Held.{each_long}
use Rattle.anb_trace.proofs.Inward.{both_inner, inner_smaller, inner_stands, inward_is}

-- lists of one length that aren't one have a first part that differs
first_there : (ts : List Tree) (xs ys : List (List ℕ)) → length ts ≡ length xs → length xs ≡ length ys → xs ≢ ys → first_apart ts xs ys ≢ None
first_there [] [] [] a b apart e = apart refl
first_there [] [] (y ∷ ys) a b apart e = absurd (omega (arith, b))
first_there [] (x ∷ xs) ys a b apart e = absurd (omega (arith, a))
first_there (t ∷ ts) [] ys a b apart e = absurd (omega (arith, a))
first_there (t ∷ ts) (x ∷ xs) [] a b apart e = absurd (omega (arith, b))
first_there (t ∷ ts) (x ∷ xs) (y ∷ ys) a b apart e = by (bytes_eq x y) refl (first_there ts xs ys (omega (arith, a)) (omega (arith, b))) e where
  by : (c : Bool) → bytes_eq x y ≡ c → (xs ≢ ys → first_apart ts xs ys ≢ None) → cond c (first_apart ts xs ys) (Some (record { term = t; due = x; came = y })) ≢ None
  by true same later e = let one = bytes_are_one x y same in later (λ (rest : xs ≡ ys). apart (cc (one, rest))) e
  by false same later e = cc

drop_got_any : {A : Type 0} (n place : ℕ) (xs : List A) (x : A) → slice_get (drop n xs) place ≡ Some x → (i : ℕ) × (slice_get xs i ≡ Some x)
drop_got_any zero place xs x e = (place, e)
drop_got_any (suc n) place [] x e = cc
drop_got_any (suc n) place (y ∷ xs) x e = let r = drop_got_any n place xs x e in (suc r.0, r.1)

abbrev IsValue : List ℕ → Type 0
IsValue bytes = IsTrue (is_bytes bytes)

held_value : (ts : List Tree) (t : Tree) (bytes : List ℕ) (vs : List (List ℕ)) → AllByRecursion IsValue vs → held ts vs t ≡ Some bytes → IsValue bytes
held_value [] t bytes vs all e = cc
held_value (u ∷ ts) t bytes [] all e = cc
held_value (u ∷ ts) t bytes (v ∷ vs) all e = by (tree_eqb u t) (held_value ts t bytes vs all.1) e where
  by : (b : Bool) → (held ts vs t ≡ Some bytes → IsValue bytes) → cond b (Some v) (held ts vs t) ≡ Some bytes → IsValue bytes
  by true later e = let is : v ≡ bytes = cc in subst IsValue is all.0
  by false later e = later e

held_values : (terms : List Tree) (table : List (List ℕ)) (ks : List Tree) (vs : List (List ℕ)) → AllByRecursion IsValue table → held_each terms table ks ≡ Some vs → AllByRecursion IsValue vs
held_values terms table [] vs all e = let is : [] ≡ vs = cc in subst (AllByRecursion IsValue) is tt
held_values terms table (k ∷ ks) vs all e = by (held terms table k) (held_each terms table ks) refl refl (λ rest is. held_values terms table ks rest all is) e where
  by : (a : Option (List ℕ)) (b : Option (List (List ℕ))) → held terms table k ≡ a → held_each terms table ks ≡ b
      → ((rest : List (List ℕ)) → held_each terms table ks ≡ Some rest → AllByRecursion IsValue rest)
      → option_and_then (λ bytes. option_map (λ rest. bytes ∷ rest) b) a ≡ Some vs → AllByRecursion IsValue vs
  by None b first next later e = cc
  by (Some bytes) None first next later e = cc
  by (Some bytes) (Some rest) first next later e =
      let is : bytes ∷ rest ≡ vs = cc in
      subst (AllByRecursion IsValue) is (held_value terms k bytes table all first, later rest next)

module _ (code : CodeValue) (terms : List Tree) (table : List (List ℕ)) where
  abbrev m : Meaning (List ℕ)
  m = meaning_of code

  -- both sides are undone with the same keys
  record Undone (o : Op) (x y : List ℕ) (xs ys : List (List ℕ)) : Type 0 where
    ks : List (List ℕ)
    undoes : undoable o ≡ true
    count : length ks ≡ keys o
    values : AreValues m ks
    first : m.undone o ks x ≡ Some xs
    second : m.undone o ks y ≡ Some ys

  module _ (all : AllByRecursion IsValue table) where
    keyed : (o : Op) (operands : List Tree) (x y : List ℕ) (xs ys : List (List ℕ)) → undoable o ≡ true → length operands ≡ arity o
        → option_and_then (λ ks. m.undone o ks x) (held_each terms table (take (keys o) operands)) ≡ Some xs
        → option_and_then (λ ks. m.undone o ks y) (held_each terms table (take (keys o) operands)) ≡ Some ys → Undone o x y xs ys
    keyed o operands x y xs ys undoes long e f = by (held_each terms table (take (keys o) operands)) refl e f where
      by : (h : Option (List (List ℕ))) → held_each terms table (take (keys o) operands) ≡ h
          → option_and_then (λ ks. m.undone o ks x) h ≡ Some xs → option_and_then (λ ks. m.undone o ks y) h ≡ Some ys → Undone o x y xs ys
      by None is e f = cc
      by (Some ks) is e f = record {
        ks = ks;
        undoes = undoes;
        count = omega (arith, each_long terms table (take (keys o) operands) ks is, length-take (keys o) operands, long, keys_fit o);
        values = All-from_recursion IsValue ks (held_values terms table (take (keys o) operands) ks all is);
        first = e;
        second = f;
      }

    format_undone : (place : ℕ) (x : List ℕ) (xs : List (List ℕ)) → parsed code.formats place x ≡ Some xs → parts_of (pieces_at code.formats place) x ≡ Some xs
    format_undone place x xs e = by (slice_get code.formats place) refl e where
      by : (f : Option FormatValue) → slice_get code.formats place ≡ f → option_and_then (λ (format : FormatValue). parts_of format.pieces x) f ≡ Some xs → parts_of (pieces_at code.formats place) x ≡ Some xs
      by None is e = cc
      by (Some format) is e = rw is e

    undone : (o : Op) (operands : List Tree) (x y : List ℕ) (xs ys : List (List ℕ)) → length operands ≡ arity o
        → opened code terms table o operands x ≡ Some xs → opened code terms table o operands y ≡ Some ys → Undone o x y xs ys
    undone Hash operands x y xs ys long e f = cc
    undone Mac operands x y xs ys long e f = cc
    undone Seal operands x y xs ys long e f = keyed Seal operands x y xs ys refl long e f
    undone Wrap operands x y xs ys long e f = keyed Wrap operands x y xs ys refl long e f
    undone (Format i a) operands x y xs ys long e f =
        record { ks = []; undoes = refl; count = refl; values = All-from_recursion IsValue [] tt; first = format_undone i x xs e; second = format_undone i y ys f }

    -- values of a formed term that differ
    record Good (d : Difference) : Type 0 where
      formed : IsFormed (has_operator code.formats) d.term
      due : IsValue d.due
      came : IsValue d.came
      apart : d.due ≢ d.came

    -- both open, so their parts differ
    record Parts (d : Difference) (b : BothOpen code terms table d) : Type 0 where
      first : first_apart (drop (keys b.operator) (list_of b.operands)) b.dues b.cames ≢ None
      dues : AllByRecursion IsValue b.dues
      cames : AllByRecursion IsValue b.cames

    good_formed : (d : Difference) (b : BothOpen code terms table d) → Good d → IsFormed (has_operator code.formats) (node b.operator b.operands)
    good_formed d b g = subst (IsFormed (has_operator code.formats)) b.is g.formed

    parts : (d : Difference) (b : BothOpen code terms table d) → Good d → Parts d b
    parts d b g =
        let formed = good_formed d b g in
        let o = b.operator in
        let u = undone o (list_of b.operands) d.due d.came b.dues b.cames formed.1 b.due_opens b.came_opens in
        let lawful = bytes_are_lawful code.formats code.suite in
        let one = lawful.undoes o u.ks b.dues d.due u.undoes formed.0 u.count u.values g.due u.first in
        let two = lawful.undoes o u.ks b.cames d.came u.undoes formed.0 u.count u.values g.came u.second in
        let apart : b.dues ≢ b.cames = λ e. g.apart (sym one.0 ∙ ap (λ ps. m.built o (u.ks ++ ps)) e ∙ two.0) in
        let dues_long : keys o + length b.dues ≡ arity o = omega (arith, one.1, length-append u.ks b.dues, u.count) in
        let cames_long : keys o + length b.cames ≡ arity o = omega (arith, two.1, length-append u.ks b.cames, u.count) in
        let ts = drop (keys o) (list_of b.operands) in
        record {
          first = first_there ts b.dues b.cames (omega (arith, length-drop (keys o) (list_of b.operands), formed.1, dues_long)) (omega (arith, dues_long, cames_long)) apart;
          dues = recursion_from_All IsValue b.dues one.2;
          cames = recursion_from_All IsValue b.cames two.2;
        }

    good_inner : (this that : Difference) → StandsIn code terms table this that → Good that → Good this
    good_inner this that s g =
        let b = s.both in
        let p = parts that b g in
        let formed = good_formed that b g in
        let among = drop_got_any (keys b.operator) s.place (list_of b.operands) this.term s.term in
        record {
          formed = each_got (IsFormed (has_operator code.formats)) (list_of b.operands) among.0 this.term (each_formed (has_operator code.formats) b.operands formed.2) among.1;
          due = each_got IsValue b.dues s.place this.due p.dues s.due;
          came = each_got IsValue b.cames s.place this.came p.cames s.came;
          apart = s.apart;
        }

    closed : (n : ℕ) (d : Difference) → tree_size d.term ≤ n → Good d → BothOpen code terms table (innermost d (inward_from code terms table d)) → ⊥
    closed zero d few g b = omega (arith, size_some d.term, few)
    closed (suc n) d few g b =
        by (inner_at code terms table d.term d.due d.came) refl (closed n) (subst (λ (l : List Difference). BothOpen code terms table (innermost d l)) (inward_is code terms table d.term d.due d.came) b) where
          by : (o : Option Difference) → inner_at code terms table d.term d.due d.came ≡ o
              → ((this : Difference) → tree_size this.term ≤ n → Good this → BothOpen code terms table (innermost this (inward_from code terms table this)) → ⊥)
              → BothOpen code terms table (innermost d (from_inner code terms table o)) → ⊥
          by None is later b = (parts d b g).first (sym (both_inner code terms table d b) ∙ is)
          by (Some this) is later b = let s = inner_stands code terms table this d is in later this (omega (arith, inner_smaller code terms table this d s, few)) (good_inner this d s g) b

pub innermost_closed : InnermostStaysClosed
innermost_closed code terms table d values formed due came apart both =
    closed code terms table (recursion_from_All IsValue table values) (tree_size d.term) d (omega arith) (record { formed = formed; due = due; came = came; apart = apart }) both
