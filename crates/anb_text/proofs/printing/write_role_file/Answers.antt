use Rattle.std.proofs.Common.{◌≡◌, codes, map, ap, refl}
use Rattle.anb_code.specs.Spelling.{raw_instrs, raw_of}
use Rattle.anb_text.specs.declared.lines.Line.TheVariants as line
use Rattle.anb_text.specs.RoleFiles.{lines_text, role_text}
use Rattle.anb_text.proofs.Printed.{few_fields, file_parts, head_lines}
use Rattle.anb_text.proofs.Written.{due_as, last_part, not_all, one_part, same_written}
use Rattle.anb_text.proofs.printing.write_role_file.Goals as goal

pub write_instrs-requires-clause-fields : goal.write_instrs-requires-clause-fields
write_instrs-requires-clause-fields g c = rw c.formats-2.ensures.formats (few_fields c.args.code.now c.formats-2.ensures.verified)

pub returns-in-Err-clause-written : goal.returns-in-Err-clause-written
returns-in-Err-clause-written g c =
    let code = c.args.code.now in
    let head = lines_text (head_lines code) in
    not_all (role_text code) _ _ _ _ _ _ head _ (due_as _ _ _ _ (file_parts code)) c.in-Err.no (c.in-Err.ensures.written head c.head_text.ensures)

pub returns-in-Err-write_formats-clause-written : goal.returns-in-Err-write_formats-clause-written
returns-in-Err-write_formats-clause-written g c =
    let code = c.args.code.now in
    let head = lines_text (head_lines code) in
    let d1 = one_part (role_text code) _ _ _ _ _ _ head _ (due_as _ _ _ _ (file_parts code)) c.in-Ok.field-0 (c.in-Ok.ensures.written head c.head_text.ensures) in
    let formats = ap (λ f. lines_text (map line.Format f)) c.formats.ensures.formats in
    not_all (role_text code) _ _ _ _ _ _ (lines_text (map line.Format code.formats)) _ d1 c.in-Err-write_formats.no (same_written _ _ _ _ _ _ _ formats c.in-Err-write_formats.ensures.written)

pub returns-in-Err-write_bytes-clause-written : goal.returns-in-Err-write_bytes-clause-written
returns-in-Err-write_bytes-clause-written g c =
    let code = c.args.code.now in
    let head = lines_text (head_lines code) in
    let d1 = one_part (role_text code) _ _ _ _ _ _ head _ (due_as _ _ _ _ (file_parts code)) c.in-Ok.field-0 (c.in-Ok.ensures.written head c.head_text.ensures) in
    let formats = ap (λ f. lines_text (map line.Format f)) c.formats.ensures.formats in
    let d2 = one_part (role_text code) _ _ _ _ _ _ (lines_text (map line.Format code.formats)) _ d1 c.in-Ok-write_formats.field-0 (same_written _ _ _ _ _ _ _ formats c.in-Ok-write_formats.ensures.written) in
    not_all (role_text code) _ _ _ _ _ _ (codes "code\n") _ d2 c.in-Err-write_bytes.no c.in-Err-write_bytes.ensures.written

pub returns-in-Err-write_instrs-clause-written : goal.returns-in-Err-write_instrs-clause-written
returns-in-Err-write_instrs-clause-written g c =
    let code = c.args.code.now in
    let head = lines_text (head_lines code) in
    let d1 = one_part (role_text code) _ _ _ _ _ _ head _ (due_as _ _ _ _ (file_parts code)) c.in-Ok.field-0 (c.in-Ok.ensures.written head c.head_text.ensures) in
    let formats = ap (λ f. lines_text (map line.Format f)) c.formats.ensures.formats in
    let d2 = one_part (role_text code) _ _ _ _ _ _ (lines_text (map line.Format code.formats)) _ d1 c.in-Ok-write_formats.field-0 (same_written _ _ _ _ _ _ _ formats c.in-Ok-write_formats.ensures.written) in
    let d3 = one_part (role_text code) _ _ _ _ _ _ (codes "code\n") _ d2 c.in-Ok-write_bytes.field-0 c.in-Ok-write_bytes.ensures.written in
    let instrs : lines_text (map line.Instr (raw_instrs c.formats-2.result.now 0 c.instrs.result.now)) ≡ lines_text (map line.Instr (raw_of code).code) =
    rw (c.formats-2.ensures.formats, c.instrs.ensures.instrs) refl in
    not_all (role_text code) _ _ _ _ _ _ (lines_text (map line.Instr (raw_of code).code)) _ d3 c.in-Err-write_instrs.no (same_written _ _ _ _ _ _ _ instrs c.in-Err-write_instrs.ensures.written)

pub returns-clause-written : goal.returns-clause-written
returns-clause-written g c =
    let code = c.args.code.now in
    let head = lines_text (head_lines code) in
    let d1 = one_part (role_text code) _ _ _ _ _ _ head _ (due_as _ _ _ _ (file_parts code)) c.in-Ok.field-0 (c.in-Ok.ensures.written head c.head_text.ensures) in
    let formats = ap (λ f. lines_text (map line.Format f)) c.formats.ensures.formats in
    let d2 = one_part (role_text code) _ _ _ _ _ _ (lines_text (map line.Format code.formats)) _ d1 c.in-Ok-write_formats.field-0 (same_written _ _ _ _ _ _ _ formats c.in-Ok-write_formats.ensures.written) in
    let d3 = one_part (role_text code) _ _ _ _ _ _ (codes "code\n") _ d2 c.in-Ok-write_bytes.field-0 c.in-Ok-write_bytes.ensures.written in
    let instrs : lines_text (map line.Instr (raw_instrs c.formats-2.result.now 0 c.instrs.result.now)) ≡ lines_text (map line.Instr (raw_of code).code) =
    rw (c.formats-2.ensures.formats, c.instrs.ensures.instrs) refl in
    let d4 = one_part (role_text code) _ _ _ _ _ _ (lines_text (map line.Instr (raw_of code).code)) _ d3 c.in-Ok-write_instrs.field-0 (same_written _ _ _ _ _ _ _ instrs c.in-Ok-write_instrs.ensures.written) in
    last_part (role_text code) _ _ _ _ _ _ (codes "end\n") d4 c.write_bytes-2.result c.write_bytes-2.ensures.written
