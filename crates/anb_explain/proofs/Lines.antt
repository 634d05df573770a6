-- Lines, word by word.
use Rattle.std.proofs.Common.{◌≡◌, ℕ, ◌+◌, ◌≤◌, ◌<◌, List, [], ◌∷◌, ◌++◌, length, map, take, drop, Some, Bool, true, false, cond, refl, sym, ap, ◌∙◌, arith, append_assoc}
use Rattle.std.specs.Prelude.{slice_get, decimal, codes, count_by}
use Rattle.std.specs.List.{flat_map, range_with_len}
use Rattle.std.proofs.lemmas.Grind.{flat_map-append}
use Rattle.std.proofs.lemmas.List.{append-nil, drop-drop}
use Rattle.std.proofs.lemmas.List.FromFn.{length-range_with_len}
use Rattle.std.proofs.lemmas.List.Folds.{flat_map-map}
use Rattle.std.proofs.lemmas.List.Sums.{sum_by-append, sum_by-cons}
use Rattle.anb_lemmas.proofs.Lists.{drop_got, take_got, drop_at_got}
use Rattle.anb_format.specs.Formats.{FormatValue}
use Rattle.anb_term.specs.declared.term.Term.{Term}
use Rattle.anb_term.specs.Tree.{Tree}
use Rattle.anb_term.specs.View.{tree_of}
use Rattle.anb_term.proofs.Lists.{slice_get-map, map-take, map-drop}
use Rattle.anb_protocol.specs.Protocols.{ProtocolValue}
use Rattle.anb_protocol.specs.Texts.{term_text}
use Rattle.anb_protocol.specs.Plans.{PlanEvent}
use Rattle.anb_code.specs.declared.instr.Instr.{Instr}
use Rattle.anb_code.specs.RawValue.{RawInstrValue}
use Rattle.anb_code.specs.Registers.{count_written}
use Rattle.anb_code.specs.Spelling.{raw_instr, raw_instrs}
use Rattle.anb_code.specs.Verified.{count_registers}
use Rattle.anb_text.specs.Lines.{instr_line}
use Rattle.anb_explain.specs.Explained.{line, note, instr_texts}

abbrev pub behind : List ℕ → List ℕ
behind text = 32 ∷ text

-- a word, numbers and a text
pub line_put : (word : List ℕ) (numbers : List ℕ) (text : List ℕ) → word ++ flat_map behind (map decimal numbers ++ text ∷ []) ≡ (word ++ flat_map (λ n. 32 ∷ decimal n) numbers) ++ 32 ∷ text
line_put word numbers text =
    let one : flat_map behind (text ∷ []) ≡ 32 ∷ text = append-nil (32 ∷ text) in
    ap (λ l. word ++ l) (flat_map-append behind (map decimal numbers) (text ∷ []) ∙ ap (λ l. l ++ flat_map behind (text ∷ [])) (flat_map-map behind decimal numbers) ∙ ap (λ l. flat_map (λ n. 32 ∷ decimal n) numbers ++ l) one)
    ∙ sym (append_assoc word (flat_map (λ n. 32 ∷ decimal n) numbers) (32 ∷ text))

-- the note of some terms
pub note_put : (p : ProtocolValue) (ts : List Term) → 0 < length ts → note (map (term_text p) (map tree_of ts)) ≡ codes " #" ++ flat_map (λ u. 32 ∷ term_text p (tree_of u)) ts
note_put p [] some = absurd (omega arith)
note_put p (t ∷ ts) some =
    ap (λ l. codes " # " ++ (term_text p (tree_of t) ++ l)) (flat_map-map behind (term_text p) (map tree_of ts) ∙ flat_map-map (λ (u : Tree). behind (term_text p u)) tree_of ts)

-- ---- one event more

abbrev pub counted_one : Bool → ℕ
counted_one b = cond b 1 0

pub counted_on : (test : PlanEvent → Bool) (before : List PlanEvent) (e : PlanEvent) → count_by test (before ++ e ∷ []) ≡ count_by test before + counted_one (test e)
counted_on test before e = omega (arith, sum_by-append (λ x. cond (test x) 1 0) before (e ∷ []), sum_by-cons (λ x. cond (test x) 1 0) e [])

pub one_if : (b : Bool) → b ≡ true → counted_one b ≡ 1
one_if true e = refl
one_if false e = cc

pub none_if : (b : Bool) → b ≡ false → counted_one b ≡ 0
none_if true e = cc
none_if false e = refl

pub at_most_one : (b : Bool) → counted_one b ≤ 1
at_most_one true = omega arith
at_most_one false = omega arith

-- ---- one instruction more

-- as many terms as registers are written
some_terms : (next n : ℕ) (trees : List Tree) → drop (length (range_with_len next n)) (drop next trees) ≡ drop (next + n) trees
some_terms next n trees = ap (λ k. drop k (drop next trees)) (length-range_with_len next n) ∙ drop-drop n next trees

-- what a loop over the instructions keeps
pub record Explaining (formats : List FormatValue) (ts : List Term) (instrs : List Instr) (raws : List RawInstrValue) (i next : ℕ) : Type 0 where
  pub before : next ≡ count_registers formats (take i instrs)
  pub spelled : drop i raws ≡ raw_instrs formats next (drop i instrs)
  pub counted : next + count_registers formats (drop i instrs) ≡ length ts

module _ (p : ProtocolValue) (formats : List FormatValue) (ts : List Term) (instrs : List Instr) (raws : List RawInstrValue) (i next k : ℕ) (x : Instr)
    (at : slice_get instrs i ≡ Some x) (many : k ≡ count_written formats x) (w : Explaining formats ts instrs raws i next) where
  abbrev pub rest : List Instr
  rest = drop (i + 1) instrs

  abbrev pub trees : List Tree
  trees = map tree_of ts

  abbrev pub raw : RawInstrValue
  raw = raw_instr formats next x

  here : (slice_get raws i ≡ Some raw) × (drop (i + 1) raws ≡ raw_instrs formats (next + count_written formats x) rest)
  here = drop_got raws (raw_instrs formats (next + count_written formats x) rest) i raw (w.spelled ∙ ap (raw_instrs formats next) (drop_at_got instrs i x at))

  width : k ≡ length raw.to
  width = many ∙ sym (length-range_with_len next (count_written formats x))

  pub one_more : Explaining formats ts instrs raws (i + 1) (next + k)
  one_more =
      let counts : next + (count_written formats x + count_registers formats rest) ≡ length ts = ap (λ n. next + n) (sym (ap (count_registers formats) (drop_at_got instrs i x at) ∙ sum_by-cons (count_written formats) x rest)) ∙ w.counted in
      record {
        before = ap (λ n. n + k) w.before ∙ omega (arith, many, ap (count_registers formats) (take_got instrs i x at), sum_by-append (count_written formats) (take i instrs) (x ∷ []), sum_by-cons (count_written formats) x []);
        spelled = here.1 ∙ ap (λ n. raw_instrs formats (next + n) rest) (sym many);
        counted = omega (arith, counts, many);
      }

  pub said : slice_get (map instr_line raws) i ≡ Some (instr_line raw)
  said = slice_get-map instr_line raws i raw here.0

  -- its line, which is the first that is due
  abbrev pub shown : List ℕ
  shown = line (instr_line raw ++ note (map (term_text p) (map tree_of (take k (drop next ts)))))

  pub shown_first : instr_texts p (drop i raws) (drop next trees) ≡ shown ++ instr_texts p (drop (i + 1) raws) (drop (next + k) trees)
  shown_first =
      let left_trees = drop next trees in
      let moved : map tree_of (take k (drop next ts)) ≡ take (length raw.to) left_trees = map-take tree_of k (drop next ts) ∙ ap (take k) (map-drop tree_of next ts) ∙ ap (λ n. take n left_trees) width in
      let said_so : line (instr_line raw ++ note (map (term_text p) (take (length raw.to) left_trees))) ≡ shown = ap (λ l. line (instr_line raw ++ note (map (term_text p) l))) (sym moved) in
      let behind_it : drop (length raw.to) left_trees ≡ drop (next + k) trees = some_terms next (count_written formats x) trees ∙ ap (λ n. drop (next + n) trees) (sym many) in
      ap (λ l. instr_texts p l left_trees) (drop_at_got raws i raw here.0)
      ∙ ap (λ l. l ++ instr_texts p (drop (i + 1) raws) (drop (length raw.to) left_trees)) said_so
      ∙ ap (λ l. shown ++ instr_texts p (drop (i + 1) raws) l) behind_it
