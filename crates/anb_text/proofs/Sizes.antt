-- What a role file spells is no longer than its text.
use Rattle.std.proofs.Common.{◌≡◌, ◌≤◌, ◌+◌, ℕ, List, [], ◌∷◌, ◌++◌, length, map, refl, sym, ap, ◌∙◌, append_assoc, arith, codes}
use Rattle.std.specs.List.{AllByRecursion, flat_map}
use Rattle.std.proofs.lemmas.List.{length-append}
use Rattle.anb_lemmas.proofs.Searching.{items_many}
use Rattle.anb_format.specs.Formats.{FormatValue}
use Rattle.anb_code.specs.RawValue.{RawInstrValue, RawValue}
use Rattle.anb_code.specs.Table.{written}
use Rattle.anb_text.specs.declared.lines.Version.{Version}
use Rattle.anb_text.specs.declared.lines.Line.{Line}
use Rattle.anb_text.specs.declared.lines.Line.TheVariants as line
use Rattle.anb_text.specs.Lines.{destinations, format_line, instr_line, line_bytes, operands, register, spaced_name, spaced_piece, what_word}
use Rattle.anb_text.specs.RoleFiles.{ended, file_lines, lines_text, suite_lines}

few_pieces : (format : FormatValue) → length format.pieces ≤ length (format_line format)
few_pieces format =
    let many = items_many spaced_piece format.pieces (λ piece. omega arith) in
    omega (arith, many, length-append format.name (flat_map spaced_piece format.pieces), length-append (codes "format ") (format.name ++ flat_map spaced_piece format.pieces))

few_to : (to : List ℕ) → length to ≤ length (destinations to)
few_to [] = omega arith
few_to (r ∷ rs) =
    let many = items_many (λ r. register r ++ 32 ∷ []) (r ∷ rs) (λ r. omega arith) in
    omega (arith, many, length-append (flat_map (λ r. register r ++ 32 ∷ []) (r ∷ rs)) (codes "= "))

few_destinations : (i : RawInstrValue) → length i.to ≤ length (instr_line i)
few_destinations i =
    let few = few_to i.to in omega (arith, few, length-append (destinations i.to) (what_word i.what ++ (spaced_name i.what i.name ++ operands i.args)))

length-ended : (l : Line) → length (ended l) ≡ length (line_bytes l) + 1
length-ended l = length-append (line_bytes l) (10 ∷ [])

pub lines_parts : (xs ys : List Line) → lines_text (xs ++ ys) ≡ lines_text xs ++ lines_text ys
lines_parts [] ys = refl
lines_parts (x ∷ xs) ys = ap (λ t. ended x ++ t) (lines_parts xs ys) ∙ sym (append_assoc (ended x) (lines_text xs) (lines_text ys))

-- ---- formats

formats_fit : (formats : List FormatValue) → length formats ≤ length (lines_text (map line.Format formats))
formats_fit [] = omega arith
formats_fit (f ∷ formats) =
    let rest = formats_fit formats in omega (arith, rest, length-append (ended (line.Format f)) (lines_text (map line.Format formats)), length-ended (line.Format f))

pieces_fit : (n : ℕ) (formats : List FormatValue) → length (lines_text (map line.Format formats)) ≤ n → AllByRecursion (λ (format : FormatValue). length format.pieces ≤ n) formats
pieces_fit n [] fits = tt
pieces_fit n (f ∷ formats) fits =
    let both = length-append (ended (line.Format f)) (lines_text (map line.Format formats)) in
    let here = few_pieces f in
    (omega (arith, both, here, length-ended (line.Format f)), pieces_fit n formats (omega (arith, both)))

-- ---- instructions

instrs_fit : (code : List RawInstrValue) → length code + length (written code) ≤ length (lines_text (map line.Instr code))
instrs_fit [] = omega arith
instrs_fit (i ∷ code) =
    let rest = instrs_fit code in
    let here = few_destinations i in
    omega (arith, rest, here, length-append i.to (written code), length-append (ended (line.Instr i)) (lines_text (map line.Instr code)), length-ended (line.Instr i))

-- ---- all

pub record Fits (n : ℕ) (raw : RawValue) : Type 0 where
  pub formats : length raw.formats ≤ n
  pub pieces : AllByRecursion (λ (format : FormatValue). length format.pieces ≤ n) raw.formats
  pub instrs : length raw.code ≤ n
  pub destinations : length (written raw.code) ≤ n

pub file_fits : (v : Version) (raw : RawValue) → Fits (length (lines_text (file_lines v raw))) raw
file_fits v raw =
    let heading = line.Version v ∷ line.Protocol raw.protocol ∷ line.Role raw.role ∷ suite_lines v raw.suite in
    let formats = map line.Format raw.formats in
    let code = map line.Instr raw.code in
    let whole = ap length (lines_parts heading (formats ++ line.Code ∷ (code ++ line.End ∷ []))) in
    let front = length-append (lines_text heading) (lines_text (formats ++ line.Code ∷ (code ++ line.End ∷ []))) in
    let first = ap length (lines_parts formats (line.Code ∷ (code ++ line.End ∷ []))) in
    let second = length-append (lines_text formats) (lines_text (line.Code ∷ (code ++ line.End ∷ []))) in
    let third = length-append (ended line.Code) (lines_text (code ++ line.End ∷ [])) in
    let fourth = ap length (lines_parts code (line.End ∷ [])) in
    let fifth = length-append (lines_text code) (lines_text (line.End ∷ [])) in
    let many = formats_fit raw.formats in
    let more = instrs_fit raw.code in
    record {
      formats = omega (arith, whole, front, first, second, many);
      pieces = pieces_fit _ raw.formats (omega (arith, whole, front, first, second));
      instrs = omega (arith, whole, front, first, second, third, fourth, fifth, more);
      destinations = omega (arith, whole, front, first, second, third, fourth, fifth, more);
    }
