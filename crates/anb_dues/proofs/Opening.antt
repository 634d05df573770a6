-- The case of an opening: the role stops there where what it opens was made wrong.
use Rattle.std.proofs.Common.{◌≡◌, ◌≢◌, ℕ, suc, ◌+◌, ◌-◌, ◌≤◌, List, [], ◌∷◌, ◌++◌, length, map, take, drop, replicate, Bool, true, false, Option, Some, None, IsTrue, refl, sym, ap, ◌∙◌, subst, arith}
use Rattle.std.specs.Prelude.{slice_get, nat_le, ◌==◌, ◌&&◌, if◌then◌else◌}
use Rattle.std.specs.List.{AllByRecursion}
use Rattle.std.specs.Option.{option_map, option_map_or}
use Rattle.std.proofs.lemmas.Bool.{and_parts}
use Rattle.std.proofs.lemmas.Bool.Decides.{nat_tests}
use Rattle.anb_lemmas.proofs.Items.{bytes_differ}
use Rattle.anb_lemmas.proofs.Lists.{both_empty}
use Rattle.anb_lemmas.proofs.Options.{mapped_from}
use Rattle.anb_base.specs.Bytes.{IsBytes-pass}
use Rattle.anb_base.specs.declared.content.Suite.{Suite}
use Rattle.anb_format.specs.Formats.{FormatValue, IsSound, field_count, format_bytes, head, is_sound, pieces_at}
use Rattle.anb_format.specs.Reading.{parts_of}
use Rattle.anb_format.specs.declared.pieces.Piece.{Piece}
use Rattle.anb_format.specs.declared.pieces.Piece.TheVariants.{Lit, Field}
use Rattle.anb_format.proofs.BuiltLemmas.{sound_test}
use Rattle.anb_format.proofs.ReadingLemmas.{parts_of-none}
use Rattle.anb_seal.specs.Primitives.{closed, hash_of, key_for, masked, opened, unsealed, unwrapped}
use Rattle.anb_seal.proofs.Closed.{length-closed}
use Rattle.anb_term.specs.declared.term.Op.{Op}
use Rattle.anb_term.specs.declared.term.Op.TheVariants.{Hash, Mac, Seal, Wrap, Format}
use Rattle.anb_term.specs.FreeAlgebra.{terms}
use Rattle.anb_term.specs.Lawful.{Lawful}
use Rattle.anb_term.specs.Tree.{Tree, Trees, leaf, node, none, more, trees_of, list_of, IsFormed}
use Rattle.anb_term.specs.Value.{Meaning}
use Rattle.anb_term.specs.View.{tree_of}
use Rattle.anb_term.proofs.Steps.{bound}
use Rattle.anb_algebra.specs.ByteMeaning.{has_operator, undone_bytes}
use Rattle.anb_algebra.specs.ByteLawful.{bytes_are_lawful}
use Rattle.anb_code.specs.declared.instr.Instr.{Instr}
use Rattle.anb_code.specs.declared.instr.Instr.TheVariants as instr
use Rattle.anb_code.specs.CodeValue.{CodeValue}
use Rattle.anb_code.specs.Meaning.{act_of, acts_of}
use Rattle.anb_plays.specs.Codes.{Act, works, undo}
use Rattle.anb_plays.specs.Honest.{honest, made}
use Rattle.anb_plays.specs.Plans.{Event}
use Rattle.anb_plays.specs.Plays.{stopped}
use Rattle.anb_plays.specs.Statements.{HonestAgree}
use Rattle.anb_plays.proofs.Exec.{exec_is_run}
use Rattle.anb_plays.proofs.Honest.{honest_agree}
use Rattle.anb_protocol.specs.Plays.{events_of, honest_bytes, meaning_of}
use Rattle.anb_protocol.specs.Protocols.{ProtocolValue}
use Rattle.anb_probe.specs.Laws.{AreValuesOf, run_over}
use Rattle.anb_spoil.specs.Wrongs.{wrong_by}
use Rattle.anb_spoil.specs.declared.tags.Closing.TheVariants as closing
use Rattle.anb_spoil.specs.declared.rows.Row.{Row}
use Rattle.anb_spoil.specs.declared.wrongs.Wrong.{Wrong}
use Rattle.anb_spoil.specs.declared.wrongs.Wrong.TheVariants.{Spoilt, FalseTag}
use Rattle.anb_openings.specs.Laws.{IsPlayed, pair}
use Rattle.anb_openings.specs.Openings.{IsOpening, IsOpeningCase, IsOpeningCaseOf, opening_value, parsed_at, parsed_format}
use Rattle.anb_openings.specs.Steps.{writing}
use Rattle.anb_openings.specs.declared.cases.OpeningCase.{OpeningCase}
use Rattle.anb_openings.proofs.Places.{is_there}
use Rattle.anb_openings.proofs.Retagging.{retagged_seal_stops, retagged_wrap_stops}
use Rattle.anb_openings.proofs.Shutting.{shut_stops}
use Rattle.anb_openings.proofs.Spoiling.{spoilt_stops}
use Rattle.anb_partner.specs.Plans.{MayStand, Script, script_of}
use Rattle.anb_attempts.specs.Attempts.{IsSceneOfOpening, IsSceneOfTag, OpeningMayStand, TagMayStand, script_in}
use Rattle.anb_attempts.specs.Retagging.{RetaggingValue, pair_from, pair_of, retagging_at, retagging_by, retagging_in, retagging_of}
use Rattle.anb_attempts.specs.declared.attempts.Scene.{Scene}
use Rattle.anb_dues.proofs.Checks.{in_scene, stand_formed}
use Rattle.anb_dues.proofs.Firsts.{Text}
use Rattle.anb_dues.proofs.Sending.{sent_stays}
use Rattle.anb_dues.proofs.Stopping.{Changes, ComesTo, Grounds, Stops}

-- ---- no bytes can't be opened

head_first : (pieces : List Piece) (arguments : List Text) → format_bytes pieces arguments ≡ [] → head pieces ≡ []
head_first [] arguments e = refl
head_first (Lit text ∷ pieces) arguments e =
    let both = both_empty text (format_bytes pieces arguments) e in
    ap (λ l. l ++ head pieces) both.0 ∙ head_first pieces arguments both.1
head_first (Field kind ∷ pieces) arguments e = refl

none_parsed : (pieces : List Piece) → IsSound pieces → parts_of pieces [] ≡ None
none_parsed pieces sound = parts_of-none pieces [] (λ arguments is. sound.head_stands (head_first pieces arguments is.built))

none_opened : (suite : Suite) (stream_key tag_key top : Text) → opened suite stream_key tag_key top [] ≡ None
none_opened suite stream_key tag_key top =
    let m = masked suite stream_key (take 32 []) (drop 32 []) in
    let c = closed suite stream_key tag_key top m in
    let differs : c ≢ [] = λ e. (let n = length-closed suite stream_key tag_key top m in let z : length c ≡ 0 = ap length e in let never : ⊥ = omega (arith, n, z) in never) in
    ap (λ b. if b then Some m else None) (bytes_differ c [] differs)

none_unsealed : (suite : Suite) (k : Text) → unsealed suite k [] ≡ None
unfolding unsealed
none_unsealed suite k = none_opened suite (key_for suite 1 k) (key_for suite 2 k) []

none_unwrapped : (suite : Suite) (k d : Text) → unwrapped suite k d [] ≡ None
unfolding unwrapped
none_unwrapped suite k d = none_opened suite (key_for suite 3 k) (key_for suite 4 k) (hash_of suite d)

-- an operator's format is sound
format_parses_none : (formats : List FormatValue) (i fields : ℕ) → IsTrue (has_operator formats (Format i fields)) → parts_of (pieces_at formats i) [] ≡ None
format_parses_none formats i fields has = by (slice_get formats i) refl where
  by : (o : Option FormatValue) → slice_get formats i ≡ o → parts_of (pieces_at formats i) [] ≡ None
  by None e = absurd (let never : false ≡ true = sym (ap (λ o. option_map_or (λ (f : FormatValue). is_sound f.pieces && (field_count f.pieces == fields)) o false) e) ∙ has in cc)
  by (Some format) e =
      let tested : (is_sound format.pieces && (field_count format.pieces == fields)) ≡ true = sym (ap (λ o. option_map_or (λ (f : FormatValue). is_sound f.pieces && (field_count f.pieces == fields)) o false) e) ∙ has in
      let sound = sound_test format.pieces (and_parts (is_sound format.pieces) (field_count format.pieces == fields) tested).0 in
      let pieces : pieces_at formats i ≡ format.pieces = ap (λ o. option_map_or (λ (f : FormatValue). f.pieces) o []) e in
      ap (λ ps. parts_of ps []) pieces ∙ none_parsed format.pieces sound

none_undone : (formats : List FormatValue) (suite : Suite) (o : Op) (ks : List Text) → IsTrue (has_operator formats o) → undone_bytes formats suite o ks [] ≡ None
none_undone formats suite Hash ks has = refl
none_undone formats suite Mac ks has = refl
none_undone formats suite Seal [] has = refl
none_undone formats suite Seal (k ∷ []) has = ap (option_map (λ m. m ∷ [])) (none_unsealed suite k)
none_undone formats suite Seal (k ∷ l ∷ ks) has = refl
none_undone formats suite Wrap [] has = refl
none_undone formats suite Wrap (k ∷ []) has = refl
none_undone formats suite Wrap (k ∷ d ∷ []) has = ap (option_map (λ m. m ∷ [])) (none_unwrapped suite k d)
none_undone formats suite Wrap (k ∷ d ∷ l ∷ ks) has = refl
none_undone formats suite (Format i fields) [] has = format_parses_none formats i fields has
none_undone formats suite (Format i fields) (k ∷ ks) has = refl

-- ---- an opening's case

module _ (p : ProtocolValue) (role : ℕ) (code : CodeValue) (g : Grounds p role (acts_of code)) (instruction : ℕ) (case : OpeningCase) (o : Op) (ks : List ℕ) (r : ℕ) (opening : IsOpening (acts_of code) instruction o ks r)
    (is : IsOpeningCase (has_operator p.formats) (length p.atoms) (events_of p role) (acts_of code) instruction o ks r (opening_value case)) where
  abbrev m : Meaning Text
  m = meaning_of p

  abbrev plan : List Event
  plan = events_of p role

  abbrev acts : List Act
  acts = acts_of code

  abbrev names : ℕ
  names = length p.atoms

  abbrev came : List Tree
  came = map tree_of case.arrivals.items

  abbrev said : List Tree
  said = map tree_of case.messages.items

  lawful : Lawful m
  lawful = bytes_are_lawful p.formats p.suite

  agrees : HonestAgree m
  agrees = honest_agree m lawful

  abbrev Played : Op → (atoms draw : ℕ → Text) → Type 0
  Played q atoms draw = IsPlayed m names plan acts instruction q ks r (opening_value case) atoms draw

  played : (atoms draw : ℕ → Text) → AreValuesOf m plan atoms draw → Played o atoms draw
  played atoms draw values = record { opening = opening; is = is; takes = g.taking; formed = g.formed; values = values }

  opened_formed : IsFormed m.has (node o (trees_of (is.keyed ++ is.parts)))
  opened_formed = subst (IsFormed m.has) is.opens is.formed.0

  -- what is made wrong in some way stops the code
  abbrev StopsIt : Tree → (Text → Option Text) → Type 0
  StopsIt right corrupt = (atoms draw : ℕ → Text) → AreValuesOf m plan atoms draw → corrupt (honest_bytes p atoms right) ≡ Some (atoms names) → (run_over m atoms draw plan acts came).end ≡ stopped case.event instruction

  opening_changes : (right : Tree) → AllByRecursion (MayStand p) came → AllByRecursion (MayStand p) said → Changes (script_of p role came said (Some right))
  opening_changes right stand_came stand_said = record { right = right; right_is = refl; arrivals_formed = stand_formed p came stand_came; messages_formed = stand_formed p said stand_said }

  opening_comes : (right : Tree) → ComesTo (script_of p role came said (Some right)) acts case.event
  opening_comes right =
      let later = sent_stays terms (made plan) (drop instruction acts) (writing is.parts is.before) is.behind is.goes_on in
      record { count = instruction - 1; before = is.before; comes = is.comes; at = is.event; more = later.0; says = sym is.messages ∙ later.1 }

  opened_stops : (right : Tree) (corrupt : Text → Option Text) → StopsIt right corrupt → AllByRecursion (MayStand p) came → AllByRecursion (MayStand p) said → Stops (script_of p role came said (Some right)) acts corrupt case.event
  unfolding played opening_changes
  opened_stops right corrupt stops stand_came stand_said = record {
    changes = opening_changes right stand_came stand_said;
    comes_to = opening_comes right;
    wrong = λ atoms draw values e. (instruction, stops atoms draw values e);
    shut = λ atoms bytes. (
      [],
      IsBytes-pass [] refl,
      λ others draw values same is_none. (
        instruction,
        shut_stops m lawful (exec_is_run m lawful) agrees names plan acts instruction o ks r (opening_value case) others draw (played others draw values)
            (ap (m.undone o (map (honest m others) is.keyed)) is_none ∙ none_undone p.formats p.suite o (map (honest m others) is.keyed) opened_formed.0),
      ),
    );
  }

  -- bytes of a format that were spoilt
  spoilt : (place fields : ℕ) (row : Row) → o ≡ Format place fields → StopsIt (tree_of case.opened) (wrong_by p.formats (Spoilt place row))
  spoilt place fields row is_format atoms draw values e =
      spoilt_stops p.formats p.suite names plan acts instruction place fields ks r (opening_value case) atoms draw (subst (λ q. Played q atoms draw) is_format (played atoms draw values)) row e

  -- and closed ones with a false tag
  false_seal : (k b : Tree) (place fields : ℕ) (rest : List Tree) → o ≡ Seal → tree_of case.opened ≡ node Seal (trees_of (k ∷ b ∷ [])) → IsFormed m.has (pair place fields (tree_of case.opened) k rest)
      → StopsIt (pair place fields (tree_of case.opened) k rest) (wrong_by p.formats (FalseTag p.suite closing.Seal place))
  false_seal k b place fields rest is_seal opens formed atoms draw values e =
      retagged_seal_stops p.formats p.suite names plan acts instruction ks r (opening_value case) atoms draw (subst (λ q. Played q atoms draw) is_seal (played atoms draw values)) k b opens place fields rest formed e

  false_wrap : (k d b : Tree) (place fields : ℕ) (rest : List Tree) → o ≡ Wrap → tree_of case.opened ≡ node Wrap (trees_of (k ∷ d ∷ b ∷ [])) → IsFormed m.has (pair place fields (tree_of case.opened) k rest)
      → StopsIt (pair place fields (tree_of case.opened) k rest) (wrong_by p.formats (FalseTag p.suite closing.Wrap place))
  false_wrap k d b place fields rest is_wrap opens formed atoms draw values e =
      retagged_wrap_stops p.formats p.suite names plan acts instruction ks r (opening_value case) atoms draw (subst (λ q. Played q atoms draw) is_wrap (played atoms draw values)) k d b opens place fields rest formed e

-- ---- which operator is opened

parse_only : (formats : List FormatValue) (x : Instr) (f : ℕ) (o : Op) (ks : List ℕ) (r : ℕ) → parsed_format x ≡ Some f → act_of formats x ≡ works (undo o ks r) → o ≡ Format f (field_count (pieces_at formats f))
parse_only formats (instr.Parse h s) f o ks r e a =
    let same : h ≡ f = cc in
    let here : Format h (field_count (pieces_at formats h)) ≡ o = cc in
    sym here ∙ ap (λ k. Format k (field_count (pieces_at formats k))) same
parse_only formats (instr.Take text) f o ks r e a = absurd (cc)
parse_only formats instr.Fresh f o ks r e a = absurd (cc)
parse_only formats instr.Recv f o ks r e a = absurd (cc)
parse_only formats (instr.Hash h) f o ks r e a = absurd (cc)
parse_only formats (instr.Mac k b) f o ks r e a = absurd (cc)
parse_only formats (instr.Seal k b) f o ks r e a = absurd (cc)
parse_only formats (instr.Unseal k c) f o ks r e a = absurd (cc)
parse_only formats (instr.Wrap k d b) f o ks r e a = absurd (cc)
parse_only formats (instr.Unwrap k d c) f o ks r e a = absurd (cc)
parse_only formats (instr.Build h rs) f o ks r e a = absurd (cc)
parse_only formats (instr.Equal h k) f o ks r e a = absurd (cc)
parse_only formats (instr.Send h) f o ks r e a = absurd (cc)

parsed_is : (code : CodeValue) (instruction f : ℕ) (o : Op) (ks : List ℕ) (r : ℕ) → parsed_at code instruction ≡ Some f → IsOpening (acts_of code) instruction o ks r → o ≡ Format f (field_count (pieces_at code.formats f))
parsed_is code instruction f o ks r e opening =
    let b = bound parsed_format (slice_get code.instrs (instruction - 1)) f e in
    parse_only code.formats b.0 f o ks r b.2 (is_there code instruction b.0 o ks r opening b.1)

pub parsed_known : (p : ProtocolValue) (role : ℕ) (code : CodeValue) → Grounds p role (acts_of code) → (instruction f : ℕ) (case : OpeningCase) → IsOpeningCaseOf p role code instruction case → parsed_at code instruction ≡ Some f
    → OpeningMayStand p case → (scene : Scene) → IsSceneOfOpening (Some f) case scene → (row : Row) (event : ℕ) → scene.due ≡ Some event → Stops (script_in p role scene) (acts_of code) (wrong_by p.formats (Spoilt f row)) event
parsed_known p role code g instruction f case is parsed stands scene of row event due =
    let is_format = parsed_is code instruction f is.o is.ks is.r parsed is.opened.opening in
    let st = opened_stops p role code g instruction case is.o is.ks is.r is.opened.opening is.is (tree_of case.opened) (wrong_by p.formats (Spoilt f row))
    (spoilt p role code g instruction case is.o is.ks is.r is.opened.opening is.is f (field_count (pieces_at code.formats f)) row is_format) stands.arrivals stands.messages in
    let here = in_scene p role (λ s. Stops s (acts_of code) (wrong_by p.formats (Spoilt f row)) case.event) scene (map tree_of case.arrivals.items) (map tree_of case.messages.items) (tree_of case.opened)
    (ap (λ v. map tree_of v.items) of.arrivals) (ap (λ v. map tree_of v.items) of.messages) (ap (option_map tree_of) of.right) st in
    let same : case.event ≡ event = (let both = sym of.due ∙ due in cc) in
    subst (λ e. Stops (script_in p role scene) (acts_of code) (wrong_by p.formats (Spoilt f row)) e) same here

-- sealed bytes that are changed in another way: the code comes to the opening
abbrev pub ComesAlong : List Act → ℕ → Script → Type 0
ComesAlong acts event s = Changes s × ComesTo s acts event

pub sealed_comes : (p : ProtocolValue) (role : ℕ) (code : CodeValue) → Grounds p role (acts_of code) → (instruction : ℕ) (case : OpeningCase) → IsOpeningCaseOf p role code instruction case → (parsed : Option ℕ) → OpeningMayStand p case → (scene : Scene) → IsSceneOfOpening parsed case scene
    → ComesAlong (acts_of code) case.event (script_in p role scene)
sealed_comes p role code g instruction case is parsed stands scene of =
    in_scene p role (ComesAlong (acts_of code) case.event) scene (map tree_of case.arrivals.items) (map tree_of case.messages.items) (tree_of case.opened)
    (ap (λ v. map tree_of v.items) of.arrivals) (ap (λ v. map tree_of v.items) of.messages) (ap (option_map tree_of) of.right)
    (opening_changes p role code g instruction case is.o is.ks is.r is.opened.opening is.is (tree_of case.opened) stands.arrivals stands.messages, opening_comes p role code g instruction case is.o is.ks is.r is.opened.opening is.is (tree_of case.opened))

-- ---- false tags

two_operands : (k : Tree) (ts : Trees) → length (list_of (more k ts)) ≡ 2 → (b : Tree) × (more k ts ≡ trees_of (k ∷ b ∷ []))
two_operands k none e = absurd (omega (arith, e))
two_operands k (more b none) e = (b, refl)
two_operands k (more b (more d ts)) e = absurd (omega (arith, e))

three_operands : (k : Tree) (ts : Trees) → length (list_of (more k ts)) ≡ 3 → (d : Tree) × (b : Tree) × (more k ts ≡ trees_of (k ∷ d ∷ b ∷ []))
three_operands k none e = absurd (omega (arith, e))
three_operands k (more d none) e = absurd (omega (arith, e))
three_operands k (more d (more b none)) e = (d, b, refl)
three_operands k (more d (more b (more c ts))) e = absurd (omega (arith, e))

pair_fields : (place : ℕ) (fs : List FormatValue) (x : ℕ × ℕ) → pair_from place fs ≡ Some x → 2 ≤ x.1
pair_fields place [] x e = absurd (cc)
pair_fields place (f ∷ fs) x e = by (nat_le 2 (field_count f.pieces)) refl e (pair_fields (place + 1) fs x) where
  by : (b : Bool) → nat_le 2 (field_count f.pieces) ≡ b → (if b then Some (place, field_count f.pieces) else pair_from (place + 1) fs) ≡ Some x → (pair_from (place + 1) fs ≡ Some x → 2 ≤ x.1) → 2 ≤ x.1
  by true t e later =
      let same : (place, field_count f.pieces) ≡ x = cc in
      let count : field_count f.pieces ≡ x.1 = ap (λ (y : ℕ × ℕ). y.1) same in
      grind (arith, nat_tests, t, count)
  by false t e later = later e

pair_is : (place fields : ℕ) (closed key : Tree) → 2 ≤ fields → pair_of place fields closed key ≡ pair place fields closed key (replicate (fields - 2) key)
pair_is place fields closed key enough =
    let n : fields - 1 ≡ suc (fields - 2) = omega (arith, enough) in
    ap (λ j. node (Format place fields) (trees_of (closed ∷ replicate j key))) n

module _ (p : ProtocolValue) (role : ℕ) (code : CodeValue) (g : Grounds p role (acts_of code)) (instruction : ℕ) (case : OpeningCase) (is : IsOpeningCaseOf p role code instruction case) where
  same_op : (q : Op) (ts : Trees) → tree_of case.opened ≡ node q ts → is.o ≡ q
  same_op q ts e = (let both = sym is.is.opens ∙ e in cc)

  opened_ok : (q : Op) (ts : Trees) → tree_of case.opened ≡ node q ts → IsFormed (has_operator p.formats) (node q ts)
  opened_ok q ts e = subst (IsFormed (has_operator p.formats)) e is.is.formed.0

  abbrev Tagged : RetaggingValue → Type 0
  Tagged tag = Stops (script_of p role (map tree_of case.arrivals.items) (map tree_of case.messages.items) (Some tag.pair)) (acts_of code) (wrong_by p.formats tag.way) case.event

  sealed_so : (k : Tree) (ts : Trees) → tree_of case.opened ≡ node Seal (more k ts) → (tag : RetaggingValue) → retagging_by p closing.Seal (tree_of case.opened) (more k ts) ≡ Some tag → TagMayStand p case tag.pair → Tagged tag
  sealed_so k ts e tag t stands =
      let f = mapped_from (retagging_in p closing.Seal (tree_of case.opened) k) (pair_from 0 p.formats) tag t in
      let ok = opened_ok Seal (more k ts) e in
      let two = two_operands k ts ok.1 in
      let enough = pair_fields 0 p.formats f.0 f.1 in
      let whole = pair_is f.0.0 f.0.1 (tree_of case.opened) k enough in
      let rest = replicate (f.0.1 - 2) k in
      let is_pair : tag.pair ≡ pair f.0.0 f.0.1 (tree_of case.opened) k rest = sym (ap (λ (x : RetaggingValue). x.pair) f.2) ∙ whole in
      let is_way : FalseTag p.suite closing.Seal f.0.0 ≡ tag.way = ap (λ (x : RetaggingValue). x.way) f.2 in
      let formed = subst (IsFormed (has_operator p.formats)) is_pair stands.wrong.formed in
      let st = opened_stops p role code g instruction case is.o is.ks is.r is.opened.opening is.is (pair f.0.0 f.0.1 (tree_of case.opened) k rest) (wrong_by p.formats (FalseTag p.suite closing.Seal f.0.0))
      (false_seal p role code g instruction case is.o is.ks is.r is.opened.opening is.is k two.0 f.0.0 f.0.1 rest (same_op Seal (more k ts) e) (e ∙ ap (node Seal) two.1) formed) stands.arrivals stands.messages in
      let one = subst (λ (w : Wrong). Stops (script_of p role (map tree_of case.arrivals.items) (map tree_of case.messages.items) (Some (pair f.0.0 f.0.1 (tree_of case.opened) k rest))) (acts_of code) (wrong_by p.formats w) case.event) is_way st in
      subst (λ t. Stops (script_of p role (map tree_of case.arrivals.items) (map tree_of case.messages.items) (Some t)) (acts_of code) (wrong_by p.formats tag.way) case.event) (sym is_pair) one

  wrapped_so : (k : Tree) (ts : Trees) → tree_of case.opened ≡ node Wrap (more k ts) → (tag : RetaggingValue) → retagging_by p closing.Wrap (tree_of case.opened) (more k ts) ≡ Some tag → TagMayStand p case tag.pair → Tagged tag
  wrapped_so k ts e tag t stands =
      let f = mapped_from (retagging_in p closing.Wrap (tree_of case.opened) k) (pair_from 0 p.formats) tag t in
      let ok = opened_ok Wrap (more k ts) e in
      let three = three_operands k ts ok.1 in
      let enough = pair_fields 0 p.formats f.0 f.1 in
      let whole = pair_is f.0.0 f.0.1 (tree_of case.opened) k enough in
      let rest = replicate (f.0.1 - 2) k in
      let is_pair : tag.pair ≡ pair f.0.0 f.0.1 (tree_of case.opened) k rest = sym (ap (λ (x : RetaggingValue). x.pair) f.2) ∙ whole in
      let is_way : FalseTag p.suite closing.Wrap f.0.0 ≡ tag.way = ap (λ (x : RetaggingValue). x.way) f.2 in
      let formed = subst (IsFormed (has_operator p.formats)) is_pair stands.wrong.formed in
      let st = opened_stops p role code g instruction case is.o is.ks is.r is.opened.opening is.is (pair f.0.0 f.0.1 (tree_of case.opened) k rest) (wrong_by p.formats (FalseTag p.suite closing.Wrap f.0.0))
      (false_wrap p role code g instruction case is.o is.ks is.r is.opened.opening is.is k three.0 three.1 f.0.0 f.0.1 rest (same_op Wrap (more k ts) e) (e ∙ ap (node Wrap) three.2) formed) stands.arrivals stands.messages in
      let one = subst (λ (w : Wrong). Stops (script_of p role (map tree_of case.arrivals.items) (map tree_of case.messages.items) (Some (pair f.0.0 f.0.1 (tree_of case.opened) k rest))) (acts_of code) (wrong_by p.formats w) case.event) is_way st in
      subst (λ t. Stops (script_of p role (map tree_of case.arrivals.items) (map tree_of case.messages.items) (Some t)) (acts_of code) (wrong_by p.formats tag.way) case.event) (sym is_pair) one

  tagged : (t : Tree) → tree_of case.opened ≡ t → (tag : RetaggingValue) → retagging_of p t ≡ Some tag → TagMayStand p case tag.pair → Tagged tag
  tagged (leaf n) e tag is_tag stands = absurd (cc)
  tagged (node Hash ts) e tag is_tag stands = absurd (cc)
  tagged (node Mac ts) e tag is_tag stands = absurd (cc)
  tagged (node (Format i fields) ts) e tag is_tag stands = absurd (cc)
  tagged (node Seal none) e tag is_tag stands = absurd (cc)
  tagged (node Seal (more k ts)) e tag is_tag stands = sealed_so k ts e tag (ap (λ t. retagging_by p closing.Seal t (more k ts)) e ∙ is_tag) stands
  tagged (node Wrap none) e tag is_tag stands = absurd (cc)
  tagged (node Wrap (more k ts)) e tag is_tag stands = wrapped_so k ts e tag (ap (λ t. retagging_by p closing.Wrap t (more k ts)) e ∙ is_tag) stands

  by_parsed : (parsed : Option ℕ) (tag : RetaggingValue) → retagging_at p parsed (tree_of case.opened) ≡ Some tag → TagMayStand p case tag.pair → Tagged tag
  by_parsed (Some f) tag is_tag stands = absurd (cc)
  by_parsed None tag is_tag stands = tagged (tree_of case.opened) refl tag is_tag stands

  pub tag_known : (parsed : Option ℕ) (tag : RetaggingValue) → retagging_at p parsed (tree_of case.opened) ≡ Some tag → TagMayStand p case tag.pair → (scene : Scene) → IsSceneOfTag case tag.pair scene → (event : ℕ) → scene.due ≡ Some event
      → Stops (script_in p role scene) (acts_of code) (wrong_by p.formats tag.way) event
  tag_known parsed tag is_tag stands scene of event due =
      let st = by_parsed parsed tag is_tag stands in
      let here = in_scene p role (λ s. Stops s (acts_of code) (wrong_by p.formats tag.way) case.event) scene (map tree_of case.arrivals.items) (map tree_of case.messages.items) tag.pair
      (ap (λ v. map tree_of v.items) of.arrivals) (ap (λ v. map tree_of v.items) of.messages) of.right st in
      let same : case.event ≡ event = (let both = sym of.due ∙ due in cc) in
      subst (λ e. Stops (script_in p role scene) (acts_of code) (wrong_by p.formats tag.way) e) same here
