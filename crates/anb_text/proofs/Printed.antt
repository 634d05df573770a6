-- What is printed part by part is the role file.
use Rattle.std.proofs.Common.{◌≡◌, ◌<◌, ◌≤◌, ◌+◌, ℕ, zero, suc, List, [], ◌∷◌, ◌++◌, length, map, get_or, ◌^◌, take, slice_get, Some, All, codes, refl, sym, ap, ◌∙◌, append_assoc, arith, add-zero}
use Rattle.std.specs.List.{flat_map, range_with_len}
use Rattle.std.proofs.lemmas.List.{append-nil}
use Rattle.std.proofs.lemmas.List.Elements.{All-from_recursion}
use Rattle.std.proofs.lemmas.List.Sums.{sum_by-cons}
use Rattle.anb_base.specs.declared.TheConstants.{ARRIVAL, WIDE}
use Rattle.anb_format.specs.Formats.{FormatValue, field_count}
use Rattle.anb_code.specs.declared.instr.Instr.{Instr}
use Rattle.anb_code.specs.CodeValue.{CodeValue}
use Rattle.anb_code.specs.Registers.{count_written}
use Rattle.anb_code.specs.Spelling.{raw_instr, raw_instrs, raw_of}
use Rattle.anb_code.specs.Verified.{IsVerifiedCode, count_registers}
use Rattle.anb_code.proofs.Numbers.{range_more}
use Rattle.anb_code.proofs.Accepted.{fields_after}
use Rattle.anb_text.specs.declared.lines.Line.{Line}
use Rattle.anb_text.specs.declared.lines.Line.TheVariants as line
use Rattle.anb_text.specs.declared.lines.Version.TheVariants as version
use Rattle.anb_text.specs.Lines.{destinations, instr_line, register}
use Rattle.anb_text.specs.RoleFiles.{instr_lines, lines_text, role_text}
use Rattle.anb_text.proofs.Sizes.{lines_parts}

abbrev behind_each : List ℕ → List ℕ
behind_each rs = flat_map (λ r. register r ++ 32 ∷ []) rs

each_parts : (rs ss : List ℕ) → behind_each (rs ++ ss) ≡ behind_each rs ++ behind_each ss
each_parts [] ss = refl
each_parts (r ∷ rs) ss = ap (λ t. (register r ++ 32 ∷ []) ++ t) (each_parts rs ss) ∙ sym (append_assoc (register r ++ 32 ∷ []) (behind_each rs) (behind_each ss))

-- one register more
next_register : (first k : ℕ) → behind_each (range_with_len first k) ++ (register (first + k) ++ 32 ∷ []) ≡ behind_each (range_with_len first (k + 1))
next_register first k =
    ap (λ t. behind_each (range_with_len first k) ++ t) (sym (append-nil (register (first + k) ++ 32 ∷ []))) ∙ sym (each_parts (range_with_len first k) ((first + k) ∷ [])) ∙ ap behind_each (range_more k first 1)

pub put_next : (new between out old : List ℕ) (first k : ℕ) → new ≡ between ++ 32 ∷ [] → between ≡ out ++ register (first + k) → out ≡ old ++ behind_each (range_with_len first k)
    → new ≡ old ++ behind_each (range_with_len first (k + 1))
put_next new between out old first k e f g =
    let each = behind_each (range_with_len first k) in
    let here = register (first + k) in
    e ∙ ap (λ t. t ++ 32 ∷ []) (f ∙ ap (λ t. t ++ here) g) ∙ append_assoc (old ++ each) here (32 ∷ []) ∙ append_assoc old each (here ++ 32 ∷ []) ∙ ap (λ t. old ++ t) (next_register first k)

some_registers : (first count : ℕ) → 0 < count → behind_each (range_with_len first count) ++ codes "= " ≡ destinations (range_with_len first count)
some_registers first zero some = absurd (omega arith)
some_registers first (suc count) some = refl

pub put_registers : (new out old : List ℕ) (first count : ℕ) → 0 < count → new ≡ out ++ codes "= " → out ≡ old ++ behind_each (range_with_len first count) → new ≡ old ++ destinations (range_with_len first count)
put_registers new out old first count some e f =
    e ∙ ap (λ t. t ++ codes "= ") f ∙ append_assoc old (behind_each (range_with_len first count)) (codes "= ") ∙ ap (λ t. old ++ t) (some_registers first count some)

-- ---- what a verified code says of its fields and registers

pub few_fields : (code : CodeValue) → IsVerifiedCode ARRIVAL WIDE code → All (λ (format : FormatValue). field_count format.pieces ≤ 32) code.formats
few_fields code verified = All-from_recursion (λ (format : FormatValue). field_count format.pieces ≤ 32) code.formats (fields_after [] code.formats verified.formats)

-- an instruction and those before it write no more than all
few_at : (formats : List FormatValue) (instrs : List Instr) (i : ℕ) (instr : Instr) → slice_get instrs i ≡ Some instr → count_registers formats (take i instrs) + count_written formats instr ≤ count_registers formats instrs
few_at formats [] i instr e = cc
few_at formats (x ∷ instrs) zero instr e =
    let same : x ≡ instr = cc in omega (arith, sum_by-cons (count_written formats) x instrs, ap (count_written formats) same)
few_at formats (x ∷ instrs) (suc i) instr e =
    let rest = few_at formats instrs i instr e in omega (arith, rest, sum_by-cons (count_written formats) x instrs, sum_by-cons (count_written formats) x (take i instrs))

-- its line is that of its raw form behind the registers before it
line_at : (formats : List FormatValue) (n : ℕ) (instrs : List Instr) (i : ℕ) (instr : Instr) → slice_get instrs i ≡ Some instr
    → slice_get (map instr_line (raw_instrs formats n instrs)) i ≡ Some (instr_line (raw_instr formats (n + count_registers formats (take i instrs)) instr))
line_at formats n [] i instr e = cc
line_at formats n (x ∷ instrs) zero instr e =
    let same : x ≡ instr = cc in ap (λ y. Some (instr_line (raw_instr formats n y))) same ∙ ap (λ m. Some (instr_line (raw_instr formats m instr))) (sym (add-zero n))
line_at formats n (x ∷ instrs) (suc i) instr e =
    let place : n + count_written formats x + count_registers formats (take i instrs) ≡ n + count_registers formats (x ∷ take i instrs) = omega (arith, sum_by-cons (count_written formats) x (take i instrs)) in
    line_at formats (n + count_written formats x) instrs i instr e ∙ ap (λ m. Some (instr_line (raw_instr formats m instr))) place

pub text_at : (code : CodeValue) (i : ℕ) (instr : Instr) → slice_get code.instrs i ≡ Some instr → slice_get (instr_lines code) i ≡ Some (instr_line (raw_instr code.formats (count_registers code.formats (take i code.instrs)) instr))
text_at code i instr e = line_at code.formats 0 code.instrs i instr e ∙ ap (λ m. Some (instr_line (raw_instr code.formats m instr))) (omega arith)

there : (instrs : List Instr) (i : ℕ) (instr : Instr) → i < length instrs → instr ≡ get_or instrs i instr → slice_get instrs i ≡ Some instr
there [] i instr within e = absurd (omega arith)
there (x ∷ instrs) zero instr within e = ap Some (sym e)
there (x ∷ instrs) (suc i) instr within e = there instrs i instr (omega arith) e

-- a verified code has few registers, before an instruction and with it
pub few_before : (code : CodeValue) (i : ℕ) (instr : Instr) → IsVerifiedCode ARRIVAL WIDE code → i < length code.instrs → instr ≡ get_or code.instrs i instr
    → count_registers code.formats (take i code.instrs) + count_written code.formats instr < 2 ^ 32
few_before code i instr verified within e =
    let few = few_at code.formats code.instrs i instr (there code.instrs i instr within e) in omega (arith, few, verified.few_registers)

pub text_there : (code : CodeValue) (i : ℕ) (instr : Instr) (text : List ℕ) → i < length code.instrs → instr ≡ get_or code.instrs i instr
    → text ≡ instr_line (raw_instr code.formats (count_registers code.formats (take i code.instrs)) instr) → slice_get (instr_lines code) i ≡ Some text
text_there code i instr text within e is = text_at code i instr (there code.instrs i instr within e) ∙ ap Some (sym is)

few_so_far : (formats : List FormatValue) (instrs : List Instr) (i : ℕ) → count_registers formats (take i instrs) ≤ count_registers formats instrs
few_so_far formats [] zero = omega arith
few_so_far formats [] (suc i) = omega arith
few_so_far formats (x ∷ instrs) zero = omega arith
few_so_far formats (x ∷ instrs) (suc i) =
    let rest = few_so_far formats instrs i in omega (arith, rest, sum_by-cons (count_written formats) x instrs, sum_by-cons (count_written formats) x (take i instrs))

pub few_taken : (code : CodeValue) (i : ℕ) → IsVerifiedCode ARRIVAL WIDE code → count_registers code.formats (take i code.instrs) < 2 ^ 32
few_taken code i verified = let few = few_so_far code.formats code.instrs i in omega (arith, few, verified.few_registers)

-- ---- the whole file

body_parts : (code : CodeValue) → lines_text (map line.Format code.formats ++ line.Code ∷ (map line.Instr (raw_of code).code ++ line.End ∷ []))
    ≡ lines_text (map line.Format code.formats) ++ (codes "code\n" ++ (lines_text (map line.Instr (raw_of code).code) ++ codes "end\n"))
body_parts code =
    lines_parts (map line.Format code.formats) (line.Code ∷ (map line.Instr (raw_of code).code ++ line.End ∷ []))
    ∙ ap (λ t. lines_text (map line.Format code.formats) ++ (codes "code\n" ++ t)) (lines_parts (map line.Instr (raw_of code).code) (line.End ∷ []))

-- the lines above the formats
abbrev pub head_lines : CodeValue → List Line
head_lines code = line.Version version.Two ∷ line.Protocol code.protocol ∷ line.Role code.role ∷ line.Suite code.suite ∷ []

pub file_parts : (code : CodeValue)
    → role_text code ≡ lines_text (head_lines code) ++ (lines_text (map line.Format code.formats) ++ (codes "code\n" ++ (lines_text (map line.Instr (raw_of code).code) ++ codes "end\n")))
file_parts code =
    lines_parts (head_lines code) (map line.Format code.formats ++ line.Code ∷ (map line.Instr (raw_of code).code ++ line.End ∷ []))
    ∙ ap (λ t. lines_text (head_lines code) ++ t) (body_parts code)
