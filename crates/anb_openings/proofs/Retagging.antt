-- What is made of a closed value and its key with a false tag stops a code at its opening.
use Rattle.std.proofs.Common.{◌≡◌, ℕ, List, [], ◌∷◌, length, map, Bool, true, false, IsTrue, Option, Some, None, if◌then◌else◌, refl, sym, ap, ◌∙◌, subst}
use Rattle.std.specs.Prelude.{slice_get, option_and_then}
use Rattle.std.specs.Option.{option_map_or}
use Rattle.std.proofs.lemmas.List.{length-map}
use Rattle.std.proofs.lemmas.List.Elements.{All-from_recursion}
use Rattle.anb_base.specs.Bytes.{is_bytes}
use Rattle.anb_base.specs.declared.content.Suite.{Suite}
use Rattle.anb_format.specs.Formats.{FormatValue, pieces_at}
use Rattle.anb_format.specs.Reading.{parts_of}
use Rattle.anb_term.specs.declared.term.Op.TheVariants.{Seal, Wrap, Format}
use Rattle.anb_term.specs.Tree.{Tree, node, trees_of, list_of, IsFormed}
use Rattle.anb_term.specs.TreeSame.{list_of-trees_of}
use Rattle.anb_term.specs.Value.{Meaning}
use Rattle.anb_term.proofs.Steps.{bound}
use Rattle.anb_algebra.specs.ByteMeaning.{byte_meaning, has_operator}
use Rattle.anb_algebra.specs.ByteLawful.{bytes_are_lawful}
use Rattle.anb_plays.specs.Honest.{honest, honest_all}
use Rattle.anb_plays.proofs.Honest.{honest_agree}
use Rattle.anb_spoil.specs.Tags.{falsely_sealed, falsely_wrapped, retagged}
use Rattle.anb_spoil.specs.Wrongs.{has_tag, retagged_first, retagged_in, wrong_by}
use Rattle.anb_spoil.specs.declared.tags.Closing.{Closing}
use Rattle.anb_spoil.specs.declared.tags.Closing.TheVariants as closing
use Rattle.anb_spoil.specs.declared.wrongs.Wrong.TheVariants.{FalseTag}
use Rattle.anb_spoil.proofs.FalseTags.{retagged_seal, retagged_wrap}
use Rattle.anb_openings.specs.Laws.{bytes_of, pair, RetaggedSealStops, RetaggedWrapStops}
use Rattle.anb_openings.proofs.Spoiling.{false_seal_stops, false_wrap_stops}

all_mapped : {A : Type 0} (m : Meaning A) (atoms : ℕ → A) (ts : List Tree) → honest_all m atoms (trees_of ts) ≡ map (honest m atoms) ts
all_mapped m atoms [] = refl
all_mapped m atoms (t ∷ ts) = ap (λ l. honest m atoms t ∷ l) (all_mapped m atoms ts)

tested : (b : Bool) (x y : List ℕ) → (if b then Some x else None) ≡ Some y → x ≡ y
tested true x y e = cc
tested false x y e = absurd (cc)

module _ (formats : List FormatValue) (suite : Suite) (atoms : ℕ → List ℕ) (values : (n : ℕ) → IsTrue (is_bytes (atoms n))) (place fields : ℕ) (opened k : Tree) (rest : List Tree)
    (formed : IsFormed (has_operator formats) (pair place fields opened k rest)) where
  abbrev of : Tree → List ℕ
  of = bytes_of formats suite atoms

  abbrev parts : List Tree
  parts = opened ∷ k ∷ rest

  -- the parts of the value's bytes are the bytes of its parts
  parted : parts_of (pieces_at formats place) (of (pair place fields opened k rest)) ≡ Some (map of parts)
  parted =
      let m = byte_meaning formats suite in
      let lawful = bytes_are_lawful formats suite in
      let agree = honest_agree m lawful atoms parts values formed.2 in
      let count : length (map of parts) ≡ fields = length-map parts of ∙ sym (ap length (list_of-trees_of parts)) ∙ formed.1 in
      let none = All-from_recursion (λ (x : List ℕ). IsTrue (m.is_value x)) [] tt in
      ap (λ l. m.undone (Format place fields) [] (m.built (Format place fields) l)) (all_mapped m atoms parts)
      ∙ lawful.undone_of (Format place fields) [] (map of parts) refl formed.0 refl count none agree.0

  pub made : (way : Closing) (wrong : List ℕ) → wrong_by formats (FalseTag suite way place) (of (pair place fields opened k rest)) ≡ Some wrong → retagged suite way (of k) (of opened) ≡ wrong
  made way wrong e =
      let right = of (pair place fields opened k rest) in
      let f = bound (λ (format : FormatValue). retagged_in format.pieces suite way right) (slice_get formats place) wrong e in
      let pieces : pieces_at formats place ≡ f.0.pieces = ap (λ o. option_map_or (λ (g : FormatValue). g.pieces) o []) f.1 in
      let here : parts_of f.0.pieces right ≡ Some (map of parts) = ap (λ ps. parts_of ps right) (sym pieces) ∙ parted in
      let first : retagged_first suite way (map of parts) ≡ Some wrong = sym (ap (option_and_then (retagged_first suite way)) here) ∙ f.2 in
      tested (has_tag (of opened)) (retagged suite way (of k) (of opened)) wrong first

pub retagged_seal_stops : RetaggedSealStops
retagged_seal_stops formats suite names plan code instruction ks r case atoms draw played k b is place fields rest formed e =
    let of = bytes_of formats suite atoms in
    let made_so = made formats suite atoms played.values.values place fields case.opened k rest formed closing.Seal (atoms names) e in
    let falsely : atoms names ≡ falsely_sealed suite (of k) (of b) = sym made_so ∙ ap (λ (t : Tree). retagged suite closing.Seal (of k) (of t)) is ∙ retagged_seal suite (of k) (of b) in
    false_seal_stops formats suite names plan code instruction ks r case atoms draw played k b is falsely

pub retagged_wrap_stops : RetaggedWrapStops
retagged_wrap_stops formats suite names plan code instruction ks r case atoms draw played k d b is place fields rest formed e =
    let of = bytes_of formats suite atoms in
    let made_so = made formats suite atoms played.values.values place fields case.opened k rest formed closing.Wrap (atoms names) e in
    let falsely : atoms names ≡ falsely_wrapped suite (of k) (of d) (of b) = sym made_so ∙ ap (λ (t : Tree). retagged suite closing.Wrap (of k) (of t)) is ∙ retagged_wrap suite (of k) (of d) (of b) in
    false_wrap_stops formats suite names plan code instruction ks r case atoms draw played k d b is falsely
