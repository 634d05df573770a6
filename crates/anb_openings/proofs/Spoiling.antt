-- Spoilt bytes of a format, and a false tag, stop a code at its opening.
use Rattle.std.proofs.Common.{◌≡◌, ℕ, List, [], ◌∷◌, ◌++◌, length, map, true, false, IsTrue, Some, None, refl, sym, ap, ◌∙◌, subst, arith}
use Rattle.std.specs.Prelude.{slice_get, ◌==◌, ◌&&◌}
use Rattle.std.specs.Option.{option_map, option_map_or}
use Rattle.std.proofs.lemmas.Bool.{and_parts}
use Rattle.anb_format.specs.Formats.{FormatValue, IsSound, field_count, is_sound, pieces_at}
use Rattle.anb_format.specs.Reading.{parts_of}
use Rattle.anb_format.proofs.BuiltLemmas.{sound_test}
use Rattle.anb_format.proofs.ReadingLemmas.{parts_of-none}
use Rattle.anb_term.specs.declared.term.Op.{Op}
use Rattle.anb_term.specs.declared.term.Op.TheVariants.{Seal, Wrap, Format}
use Rattle.anb_term.specs.Tree.{Tree, node, trees_of, list_of, IsFormed}
use Rattle.anb_term.specs.TreeSame.{list_of-trees_of}
use Rattle.anb_term.proofs.Steps.{bound}
use Rattle.anb_algebra.specs.ByteMeaning.{byte_meaning, has_operator}
use Rattle.anb_algebra.specs.ByteLawful.{bytes_are_lawful}
use Rattle.anb_plays.proofs.Exec.{exec_is_run}
use Rattle.anb_plays.proofs.Honest.{honest_agree}
use Rattle.anb_spoil.specs.Wrongs.{respoilt}
use Rattle.anb_spoil.proofs.FalseTags.{seal_stays_shut, wrap_stays_shut}
use Rattle.anb_spoil.proofs.Respoilt.{spoilt_refused}
use Rattle.anb_openings.specs.Laws.{bytes_of, SpoiltStops, FalseSealStops, FalseWrapStops}
use Rattle.anb_openings.proofs.Shutting.{shut_stops}

same_front : {X : Type 0} (xs ys zs ws : List X) → length xs ≡ length zs → xs ++ ys ≡ zs ++ ws → xs ≡ zs
same_front [] ys [] ws n e = refl
same_front [] ys (z ∷ zs) ws n e = cc
same_front (x ∷ xs) ys [] ws n e = cc
same_front (x ∷ xs) ys (z ∷ zs) ws n e =
    let head : x ≡ z = cc in
    let rest : xs ++ ys ≡ zs ++ ws = cc in
    ap (λ t. t ∷ xs) head ∙ ap (λ l. z ∷ l) (same_front xs ys zs ws (omega (arith, n)) rest)

-- the keys of a node whose operands are told twice
keys_told : (o : Op) (keyed parts ks ps : List Tree) (opened : Tree) → opened ≡ node o (trees_of (keyed ++ parts)) → opened ≡ node o (trees_of (ks ++ ps)) → length keyed ≡ length ks → keyed ≡ ks
keys_told o keyed parts ks ps opened e f n =
    let both = sym e ∙ f in
    let trees : trees_of (keyed ++ parts) ≡ trees_of (ks ++ ps) = cc in
    same_front keyed parts ks ps n (sym (list_of-trees_of (keyed ++ parts)) ∙ ap list_of trees ∙ list_of-trees_of (ks ++ ps))

no_keys : {X : Type 0} (xs : List X) → length xs ≡ 0 → xs ≡ []
no_keys [] n = refl
no_keys (x ∷ xs) n = absurd (omega (arith, n))

-- a format that is an operator stands there, and is sound
format_sound : (formats : List FormatValue) (place arity : ℕ) (format : FormatValue) → slice_get formats place ≡ Some format → IsTrue (has_operator formats (Format place arity)) → IsSound format.pieces
format_sound formats place arity format here has =
    let test : (is_sound format.pieces && (field_count format.pieces == arity)) ≡ true =
    sym (ap (λ o. option_map_or (λ (f : FormatValue). is_sound f.pieces && (field_count f.pieces == arity)) o false) here) ∙ has in
    sound_test format.pieces (and_parts (is_sound format.pieces) (field_count format.pieces == arity) test).0

pub spoilt_stops : SpoiltStops
spoilt_stops formats suite names plan code instruction place arity ks r case atoms draw played row e =
    let m = byte_meaning formats suite in
    let lawful = bytes_are_lawful formats suite in
    let right = bytes_of formats suite atoms case.opened in
    let wrong = atoms names in
    let f = bound (λ (format : FormatValue). respoilt format.pieces row right) (slice_get formats place) wrong e in
    let opened : IsFormed (has_operator formats) (node (Format place arity) (trees_of (played.is.keyed ++ played.is.parts))) = subst (IsFormed (has_operator formats)) played.is.opens played.is.formed.0 in
    let sound = format_sound formats place arity f.0 f.1 opened.0 in
    let pieces : pieces_at formats place ≡ f.0.pieces = ap (λ o. option_map_or (λ (g : FormatValue). g.pieces) o []) f.1 in
    let none : parts_of f.0.pieces wrong ≡ None = parts_of-none f.0.pieces wrong (spoilt_refused f.0.pieces sound row right wrong f.2) in
    let shut : m.undone (Format place arity) (map (bytes_of formats suite atoms) played.is.keyed) wrong ≡ None =
    ap (λ l. m.undone (Format place arity) (map (bytes_of formats suite atoms) l) wrong) (no_keys played.is.keyed played.is.count) ∙ ap (λ ps. parts_of ps wrong) pieces ∙ none in
    shut_stops m lawful (exec_is_run m lawful) (honest_agree m lawful) names plan code instruction (Format place arity) ks r case atoms draw played shut

pub false_seal_stops : FalseSealStops
false_seal_stops formats suite names plan code instruction ks r case atoms draw played k b is e =
    let m = byte_meaning formats suite in
    let lawful = bytes_are_lawful formats suite in
    let of = bytes_of formats suite atoms in
    let keyed : played.is.keyed ≡ k ∷ [] = keys_told Seal played.is.keyed played.is.parts (k ∷ []) (b ∷ []) case.opened played.is.opens is played.is.count in
    let shut : m.undone Seal (map of played.is.keyed) (atoms names) ≡ None =
    ap (λ l. m.undone Seal (map of l) (atoms names)) keyed ∙ ap (m.undone Seal (of k ∷ [])) e ∙ ap (option_map (λ x. x ∷ [])) (seal_stays_shut suite (of k) (of b)) in
    shut_stops m lawful (exec_is_run m lawful) (honest_agree m lawful) names plan code instruction Seal ks r case atoms draw played shut

pub false_wrap_stops : FalseWrapStops
false_wrap_stops formats suite names plan code instruction ks r case atoms draw played k d b is e =
    let m = byte_meaning formats suite in
    let lawful = bytes_are_lawful formats suite in
    let of = bytes_of formats suite atoms in
    let keyed : played.is.keyed ≡ k ∷ d ∷ [] = keys_told Wrap played.is.keyed played.is.parts (k ∷ d ∷ []) (b ∷ []) case.opened played.is.opens is played.is.count in
    let shut : m.undone Wrap (map of played.is.keyed) (atoms names) ≡ None =
    ap (λ l. m.undone Wrap (map of l) (atoms names)) keyed ∙ ap (m.undone Wrap (of k ∷ of d ∷ [])) e ∙ ap (option_map (λ x. x ∷ [])) (wrap_stays_shut suite (of k) (of d) (of b)) in
    shut_stops m lawful (exec_is_run m lawful) (honest_agree m lawful) names plan code instruction Wrap ks r case atoms draw played shut
