use Rattle.std.proofs.Common.{◌≡◌, ◌<◌, ◌+◌, ◌^◌, List, [], length, map, ap, subst, ◌∙◌, arith, All}
use Rattle.std.proofs.lemmas.Result.{err_from_is_err_and}
use Rattle.anb_base.specs.declared.TheConstants.{ARRIVAL, WIDE}
use Rattle.anb_format.specs.Formats.{FormatValue, IsSound}
use Rattle.anb_code.specs.RawValue.{RawInstrValue, RawValue}
use Rattle.anb_code.specs.Spelling.{instr_of}
use Rattle.anb_code.specs.Table.{BeginsWith, HasCounts, faults_from, format_faults, instr_faults, written}
use Rattle.anb_code.proofs.Accepted.{begins, begins_after, few_formats, verified_code}
use Rattle.anb_code.proofs.code.verify.Goals as goal

pub returns-in_err-check_formats-clause-refused : goal.returns-in_err-check_formats-clause-refused
returns-in_err-check_formats-clause-refused c =
    let raw = c.args.raw in
    let fault = c.in_err-check_formats.field-0.0 in
    let p = err_from_is_err_and c.from_residual.result c.from_residual.ensures.1 in
    let formats : c.deref.result.now ≡ raw.formats = c.deref.ensures.value ∙ ap (λ (r : RawValue). r.formats) c.raw.view_is in
    let first = subst (λ (fs : List FormatValue). BeginsWith (faults_from format_faults [] fs) fault) formats c.in_err-check_formats.ensures.refused in
    rw (p.1, p.2) (λ other. begins (faults_from format_faults [] raw.formats) (faults_from (instr_faults ARRIVAL WIDE raw.formats) [] raw.code) fault first)

pub returns-in_err-check_code-clause-refused : goal.returns-in_err-check_code-clause-refused
returns-in_err-check_code-clause-refused c =
    let raw = c.args.raw in
    let fault = c.in_err-check_code.field-0.0 in
    let p = err_from_is_err_and c.from_residual-in_err-check_code.result c.from_residual-in_err-check_code.ensures.1 in
    let formats : c.deref.result.now ≡ raw.formats = c.deref.ensures.value ∙ ap (λ (r : RawValue). r.formats) c.raw.view_is in
    let made : c.deref-2.result.now ≡ raw.formats = c.deref-2.ensures.value ∙ c.in_ok-formats.ensures ∙ ap (λ (r : RawValue). r.formats) c.raw.view_is in
    let code : c.deref-3.result.now ≡ raw.code = c.deref-3.ensures.value ∙ ap (λ (r : RawValue). r.code) c.raw.view_is in
    let none = subst (λ (fs : List FormatValue). faults_from format_faults [] fs ≡ []) formats c.in_ok-check_formats.ensures.fine in
    rw (p.1, p.2) (λ other.
    let here = subst (λ (fs : List FormatValue). BeginsWith (faults_from (instr_faults ARRIVAL WIDE fs) [] c.deref-3.result.now) fault) made (c.in_err-check_code.ensures.refused other) in
    let first = subst (λ (is : List RawInstrValue). BeginsWith (faults_from (instr_faults ARRIVAL WIDE raw.formats) [] is) fault) code here in
    begins_after (faults_from format_faults [] raw.formats) (faults_from (instr_faults ARRIVAL WIDE raw.formats) [] raw.code) fault none first)

pub instrs_of-requires-clause-few : goal.instrs_of-requires-clause-few
instrs_of-requires-clause-few c =
    let made : c.deref-4.result.now ≡ c.deref.result.now = cc (c.deref-4.ensures.value, c.in_ok-formats.ensures, c.deref.ensures.value) in
    let few = few_formats c.deref.result.now c.in_ok-check_formats.ensures.fine c.in_ok-check_formats.ensures.sound in
    omega (arith, few, ap length made)

pub new-requires : goal.new-requires
new-requires c =
    let inside = c.raw.inside in
    let raw : RawValue = record { protocol = inside.protocol; role = inside.role; suite = inside.suite; formats = inside.formats.items; code = inside.code.items } in
    let given : c.deref.result.now ≡ inside.formats.items = c.deref.ensures.value in
    let made : c.in_ok-formats.formats.items ≡ inside.formats.items = c.in_ok-formats.ensures in
    let checked : c.deref-2.result.now ≡ inside.formats.items = c.deref-2.ensures.value ∙ made in
    let code : c.deref-3.result.now ≡ inside.code.items = c.deref-3.ensures.value in
    let spelled : c.in_ok-instrs.instrs.items ≡ map (instr_of inside.formats.items) inside.code.items =
    c.in_ok-instrs.ensures ∙ ap (λ (fs : List FormatValue). map (instr_of fs) inside.code.items) (c.deref-4.ensures.value ∙ made) in
    let same : inside.code.items ≡ c.args.raw.code = ap (λ (r : RawValue). r.code) c.raw.view_is in
    let no_format_fault = subst (λ (fs : List FormatValue). faults_from format_faults [] fs ≡ []) given c.in_ok-check_formats.ensures.fine in
    let sound = subst (λ (fs : List FormatValue). All (λ (format : FormatValue). IsSound format.pieces) fs) given c.in_ok-check_formats.ensures.sound in
    let no_fault = subst (λ (fs : List FormatValue). faults_from (instr_faults ARRIVAL WIDE fs) [] c.deref-3.result.now ≡ []) checked c.in_ok-check_code.ensures.fine in
    let no_instr_fault = subst (λ (is : List RawInstrValue). faults_from (instr_faults ARRIVAL WIDE inside.formats.items) [] is ≡ []) code no_fault in
    let counts : All HasCounts inside.code.items = rw same c.requires.counts in
    let instrs : length inside.code.items + 1 < 2 ^ 32 = rw same c.requires.instrs in
    let destinations : length (written inside.code.items) + 1 < 2 ^ 32 = rw same c.requires.destinations in
    rw (made, spelled) (verified_code raw no_format_fault no_instr_fault sound counts instrs destinations)
