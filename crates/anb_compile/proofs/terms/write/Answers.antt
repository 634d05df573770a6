use Rattle.std.proofs.Common.{◌≡◌, ℕ, ◌+◌, List, [], ◌∷◌, ◌++◌, drop, map, length, OnOk, Option, sym, ap, ◌∙◌, subst}
use Rattle.std.specs.Option.{option_map_or}
use Rattle.anb_base.specs.declared.content.Suite.{Suite}
use Rattle.anb_format.specs.Formats.{FormatValue, field_count, pieces_at}
use Rattle.anb_term.specs.declared.term.Op.{Op}
use Rattle.anb_term.specs.declared.term.Op.TheVariants.{Hash, Mac, Seal, Wrap, Format}
use Rattle.anb_term.specs.Tree.{Tree}
use Rattle.anb_term.specs.View.{tree_of}
use Rattle.anb_plays.specs.Plans as plays
use Rattle.anb_plays.specs.Codes.{Act, make, undo}
use Rattle.anb_code.specs.declared.instr.Instr.{Instr}
use Rattle.anb_code.specs.Meaning.{act_of}
use Rattle.anb_code.specs.Verified.{HasItsFormat}
use Rattle.anb_compile.specs.Valued.{HasWalked, Writes}
use Rattle.anb_compile.proofs.Valuing.{work_writes, takes_on, draws_on, receives_on, sends_on, equal_on, made_on, parts_on}
use Rattle.anb_compile.proofs.terms.write.Goals as goal

pub returns-in-Take : goal.returns-in-Take
returns-in-Take c =
    let f = c.args.formats.now in
    let events = c.args.events.now in
    let n = c.args.next.now in
    let old = c.args.terms.now.items in
    let P : Instr → Type 0 = λ x. OnOk c.hear.result ((suite : Suite) (plan : List plays.Event) (all later : List Act) → HasWalked f suite plan all (act_of f x ∷ later) (drop n events) old → HasWalked f suite plan all later (drop c.hear.new.next events) c.hear.new.terms.items) in
    subst P (sym c.in-Take.is) (takes_on f events n old c.hear.new.terms.items c.hear.result c.hear.new.next c.hear.ensures.next c.hear.ensures.term)

pub returns-in-Fresh : goal.returns-in-Fresh
returns-in-Fresh c =
    let f = c.args.formats.now in
    let events = c.args.events.now in
    let n = c.args.next.now in
    let old = c.args.terms.now.items in
    let P : Instr → Type 0 = λ x. OnOk c.hear-in-Fresh.result ((suite : Suite) (plan : List plays.Event) (all later : List Act) → HasWalked f suite plan all (act_of f x ∷ later) (drop n events) old → HasWalked f suite plan all later (drop c.hear-in-Fresh.new.next events) c.hear-in-Fresh.new.terms.items) in
    subst P (sym c.in-Fresh.is) (draws_on f events n old c.hear-in-Fresh.new.terms.items c.hear-in-Fresh.result c.hear-in-Fresh.new.next c.hear-in-Fresh.ensures.next c.hear-in-Fresh.ensures.term)

pub returns-in-Recv : goal.returns-in-Recv
returns-in-Recv c =
    let f = c.args.formats.now in
    let events = c.args.events.now in
    let n = c.args.next.now in
    let old = c.args.terms.now.items in
    let P : Instr → Type 0 = λ x. OnOk c.hear-in-Recv.result ((suite : Suite) (plan : List plays.Event) (all later : List Act) → HasWalked f suite plan all (act_of f x ∷ later) (drop n events) old → HasWalked f suite plan all later (drop c.hear-in-Recv.new.next events) c.hear-in-Recv.new.terms.items) in
    subst P (sym c.in-Recv.is) (receives_on f events n old c.hear-in-Recv.new.terms.items c.hear-in-Recv.result c.hear-in-Recv.new.next c.hear-in-Recv.ensures.next c.hear-in-Recv.ensures.term)

pub returns-in-Equal : goal.returns-in-Equal
returns-in-Equal c =
    let f = c.args.formats.now in
    let events = c.args.events.now in
    let n = c.args.next.now in
    let old = c.args.terms.now.items in
    let P : Instr → Type 0 = λ x. (suite : Suite) (plan : List plays.Event) (all later : List Act) → HasWalked f suite plan all (act_of f x ∷ later) (drop n events) old → HasWalked f suite plan all later (drop n events) old in
    subst P (sym c.in-Equal.is) (equal_on f events n old c.in-Equal.field-0 c.in-Equal.field-1)

pub returns-in-Hash : goal.returns-in-Hash
returns-in-Hash c =
    let f = c.args.formats.now in
    let events = c.args.events.now in
    let n = c.args.next.now in
    let old = c.args.terms.now.items in
    let P : Instr → Type 0 = λ x. OnOk c.put_made.result ((suite : Suite) (plan : List plays.Event) (all later : List Act) → HasWalked f suite plan all (act_of f x ∷ later) (drop n events) old → HasWalked f suite plan all later (drop n events) c.put_made.new.terms.items) in
    subst P (sym c.in-Hash.is) (made_on f events n old c.put_made.new.terms.items c.put_made.result Hash (c.in-Hash.m ∷ []) c.put_made.ensures)

pub returns-in-Mac : goal.returns-in-Mac
returns-in-Mac c =
    let f = c.args.formats.now in
    let events = c.args.events.now in
    let n = c.args.next.now in
    let old = c.args.terms.now.items in
    let P : Instr → Type 0 = λ x. OnOk c.put_made-in-Mac.result ((suite : Suite) (plan : List plays.Event) (all later : List Act) → HasWalked f suite plan all (act_of f x ∷ later) (drop n events) old → HasWalked f suite plan all later (drop n events) c.put_made-in-Mac.new.terms.items) in
    subst P (sym c.in-Mac.is) (made_on f events n old c.put_made-in-Mac.new.terms.items c.put_made-in-Mac.result Mac (c.in-Mac.k ∷ c.in-Mac.m ∷ []) c.put_made-in-Mac.ensures)

pub returns-in-Seal : goal.returns-in-Seal
returns-in-Seal c =
    let f = c.args.formats.now in
    let events = c.args.events.now in
    let n = c.args.next.now in
    let old = c.args.terms.now.items in
    let P : Instr → Type 0 = λ x. OnOk c.put_made-in-Seal.result ((suite : Suite) (plan : List plays.Event) (all later : List Act) → HasWalked f suite plan all (act_of f x ∷ later) (drop n events) old → HasWalked f suite plan all later (drop n events) c.put_made-in-Seal.new.terms.items) in
    subst P (sym c.in-Seal.is) (made_on f events n old c.put_made-in-Seal.new.terms.items c.put_made-in-Seal.result Seal (c.in-Seal.k ∷ c.in-Seal.m ∷ []) c.put_made-in-Seal.ensures)

pub returns-in-Wrap : goal.returns-in-Wrap
returns-in-Wrap c =
    let f = c.args.formats.now in
    let events = c.args.events.now in
    let n = c.args.next.now in
    let old = c.args.terms.now.items in
    let P : Instr → Type 0 = λ x. OnOk c.put_made-in-Wrap.result ((suite : Suite) (plan : List plays.Event) (all later : List Act) → HasWalked f suite plan all (act_of f x ∷ later) (drop n events) old → HasWalked f suite plan all later (drop n events) c.put_made-in-Wrap.new.terms.items) in
    subst P (sym c.in-Wrap.is) (made_on f events n old c.put_made-in-Wrap.new.terms.items c.put_made-in-Wrap.result Wrap (c.in-Wrap.k ∷ c.in-Wrap.d ∷ c.in-Wrap.m ∷ []) c.put_made-in-Wrap.ensures)

pub returns-in-Unseal : goal.returns-in-Unseal
returns-in-Unseal c =
    let f = c.args.formats.now in
    let events = c.args.events.now in
    let n = c.args.next.now in
    let old = c.args.terms.now.items in
    let P : Instr → Type 0 = λ x. OnOk c.put_parts.result ((suite : Suite) (plan : List plays.Event) (all later : List Act) → HasWalked f suite plan all (act_of f x ∷ later) (drop n events) old → HasWalked f suite plan all later (drop n events) c.put_parts.new.terms.items) in
    subst P (sym c.in-Unseal.is) (parts_on f events n old c.put_parts.new.terms.items c.put_parts.result Seal (c.in-Unseal.k ∷ []) c.in-Unseal.c c.put_parts.ensures)

pub returns-in-Unwrap : goal.returns-in-Unwrap
returns-in-Unwrap c =
    let f = c.args.formats.now in
    let events = c.args.events.now in
    let n = c.args.next.now in
    let old = c.args.terms.now.items in
    let P : Instr → Type 0 = λ x. OnOk c.put_parts-in-Unwrap.result ((suite : Suite) (plan : List plays.Event) (all later : List Act) → HasWalked f suite plan all (act_of f x ∷ later) (drop n events) old → HasWalked f suite plan all later (drop n events) c.put_parts-in-Unwrap.new.terms.items) in
    subst P (sym c.in-Unwrap.is) (parts_on f events n old c.put_parts-in-Unwrap.new.terms.items c.put_parts-in-Unwrap.result Wrap (c.in-Unwrap.k ∷ c.in-Unwrap.d ∷ []) c.in-Unwrap.c c.put_parts-in-Unwrap.ensures)

pub returns-in-Send : goal.returns-in-Send
returns-in-Send c =
    let f = c.args.formats.now in
    let events = c.args.events.now in
    let n = c.args.next.now in
    let old = c.args.terms.now.items in
    let P : Instr → Type 0 = λ x. (suite : Suite) (plan : List plays.Event) (all later : List Act) → HasWalked f suite plan all (act_of f x ∷ later) (drop n events) old → HasWalked f suite plan all later (drop (n + 1) events) old in
    subst P (sym c.in-Send.is) (sends_on f events n old c.in-Send.field-0)

pub put_parts-requires-clause-parts : goal.put_parts-requires-clause-parts
put_parts-requires-clause-parts c =
    let w = c.requires.walked in
    let f = c.args.formats.now in
    let old = c.args.terms.now.items in
    let P : Instr → Type 0 = λ x. HasWalked f w.0 w.1 w.2 (act_of f x ∷ w.3) (drop c.args.next.now c.args.events.now) old in
    let ws = work_writes f w.0 w.1 w.2 w.3 (undo Seal (c.in-Unseal.k ∷ []) c.in-Unseal.c) _ (map tree_of old) (subst P c.in-Unseal.is w.4) in
    (f, ws.0, ws.1)

pub put_parts-requires-in-Unwrap-clause-parts : goal.put_parts-requires-in-Unwrap-clause-parts
put_parts-requires-in-Unwrap-clause-parts c =
    let w = c.requires.walked in
    let f = c.args.formats.now in
    let old = c.args.terms.now.items in
    let P : Instr → Type 0 = λ x. HasWalked f w.0 w.1 w.2 (act_of f x ∷ w.3) (drop c.args.next.now c.args.events.now) old in
    let ws = work_writes f w.0 w.1 w.2 w.3 (undo Wrap (c.in-Unwrap.k ∷ c.in-Unwrap.d ∷ []) c.in-Unwrap.c) _ (map tree_of old) (subst P c.in-Unwrap.is w.4) in
    (f, ws.0, ws.1)

pub put_parts-requires-in-Parse-clause-parts : goal.put_parts-requires-in-Parse-clause-parts
put_parts-requires-in-Parse-clause-parts c =
    let w = c.requires.walked in
    let f = c.args.formats.now in
    let old = c.args.terms.now.items in
    let o = Format c.in-Parse.f (field_count (pieces_at f c.in-Parse.f)) in
    let P : Instr → Type 0 = λ x. HasWalked f w.0 w.1 w.2 (act_of f x ∷ w.3) (drop c.args.next.now c.args.events.now) old in
    let ws = work_writes f w.0 w.1 w.2 w.3 (undo o [] c.in-Parse.r) _ (map tree_of old) (subst P c.in-Parse.is w.4) in
    let Q : Op → Type 0 = λ q. Writes f (undo q [] c.in-Parse.r) old ws.0 in
    (f, ws.0, subst Q (sym c.format_op-op-in-Parse.ensures) ws.1)

pub returns-in-Parse : goal.returns-in-Parse
returns-in-Parse c =
    let f = c.args.formats.now in
    let events = c.args.events.now in
    let n = c.args.next.now in
    let old = c.args.terms.now.items in
    let new = c.put_parts-in-Parse.new.terms.items in
    let o = Format c.in-Parse.f (field_count (pieces_at f c.in-Parse.f)) in
    let P : Instr → Type 0 = λ x. OnOk c.put_parts-in-Parse.result ((suite : Suite) (plan : List plays.Event) (all later : List Act) → HasWalked f suite plan all (act_of f x ∷ later) (drop n events) old → HasWalked f suite plan all later (drop n events) new) in
    let Q : Op → Type 0 = λ q. OnOk c.put_parts-in-Parse.result ((fs : List FormatValue) (ts : List Tree) → Writes fs (undo q [] c.in-Parse.r) old ts → map tree_of new ≡ map tree_of old ++ ts) in
    subst P (sym c.in-Parse.is) (parts_on f events n old new c.put_parts-in-Parse.result o [] c.in-Parse.r (subst Q c.format_op-op-in-Parse.ensures c.put_parts-in-Parse.ensures))

pub returns-in-Build : goal.returns-in-Build
returns-in-Build c =
    let f = c.args.formats.now in
    let events = c.args.events.now in
    let n = c.args.next.now in
    let old = c.args.terms.now.items in
    let new = c.put_made-in-Build.new.terms.items in
    let rs = c.in-Build.operands in
    let has = subst (HasItsFormat f) c.in-Build.is c.requires.format in
    let fields : field_count (pieces_at f c.in-Build.f) ≡ length rs = ap (λ (q : Option FormatValue). field_count (option_map_or (λ (x : FormatValue). x.pieces) q [])) has.1 ∙ sym has.2 in
    let op = c.format_op-op.ensures ∙ ap (Format c.in-Build.f) fields in
    let P : Instr → Type 0 = λ x. OnOk c.put_made-in-Build.result ((suite : Suite) (plan : List plays.Event) (all later : List Act) → HasWalked f suite plan all (act_of f x ∷ later) (drop n events) old → HasWalked f suite plan all later (drop n events) new) in
    let Q : Op → Type 0 = λ q. OnOk c.put_made-in-Build.result ((fs : List FormatValue) → (ts : List Tree) × Writes fs (make q c.as_slice.result.now) old ts × (map tree_of new ≡ map tree_of old ++ ts)) in
    let R : List ℕ → Type 0 = λ l. OnOk c.put_made-in-Build.result ((fs : List FormatValue) → (ts : List Tree) × Writes fs (make (Format c.in-Build.f (length rs)) l) old ts × (map tree_of new ≡ map tree_of old ++ ts)) in
    subst P (sym c.in-Build.is) (made_on f events n old new c.put_made-in-Build.result (Format c.in-Build.f (length rs)) rs (subst R c.as_slice.ensures (subst Q op c.put_made-in-Build.ensures)))
