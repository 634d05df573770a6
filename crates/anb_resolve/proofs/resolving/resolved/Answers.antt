use Rattle.std.proofs.Common.{◌≡◌, ◌<◌, List, [], length, map, ap, sym, ◌∙◌, subst, None}
use Rattle.std.specs.Option.{option_map}
use Rattle.std.specs.List.{AllByRecursion}
use Rattle.anb_base.specs.declared.TheConstants.{ARRIVAL, WIDE}
use Rattle.anb_format.specs.Formats.{FormatValue, IsSound}
use Rattle.anb_syntax.specs.declared.narration.FormatItem.{FormatItem}
use Rattle.anb_syntax.specs.Grammar as grammar
use Rattle.anb_syntax.specs.Views.{format_of, narration_of}
use Rattle.anb_protocol.specs.declared.refusals.ResolveNo.TheVariants.{FormatShape}
use Rattle.anb_protocol.specs.Choices.{first, first_after}
use Rattle.anb_protocol.specs.Protocols.{ActionValue, ProtocolValue, format_value, formats_of}
use Rattle.anb_protocol.specs.Checks.{first_fault, limit_checks, name_checks, protocol_checks, misshapen, overlap, overlaps, shape_fault}
use Rattle.anb_protocol.specs.WellFormed.{AreFew, CanBeChecked}
use Rattle.anb_protocol.proofs.Holding.{few_formats}
use Rattle.anb_protocol.proofs.Building.{ends_below, can_be_checked, sound_formats, fault_limits, fault_names, fault_shapes, fault_overlaps, fault_protocol}
use Rattle.anb_resolve.proofs.resolving.resolved.Goals as goal

pub returns-in-Some : goal.returns-in-Some
returns-in-Some c = fault_limits ARRIVAL WIDE (narration_of c.args.n.now) c.in-Some.no (sym c.in_ok-no.ensures ∙ c.in-Some.is)

pub returns-in-Some-2 : goal.returns-in-Some-2
returns-in-Some-2 c =
    let n = narration_of c.args.n.now in
    let l : first_fault limit_checks n ≡ None = sym c.in_ok-no.ensures ∙ c.in-None.is in
    fault_names ARRIVAL WIDE n c.in-Some-2.no l (sym c.in_ok-no-2.ensures ∙ c.in-Some-2.is)

pub returns-in-Some-3 : goal.returns-in-Some-3
returns-in-Some-3 c =
    let n = narration_of c.args.n.now in
    let l : first_fault limit_checks n ≡ None = sym c.in_ok-no.ensures ∙ c.in-None.is in
    let a : first_fault name_checks n ≡ None = sym c.in_ok-no-2.ensures ∙ c.in-None-2.is in
    let shapes = c.in_ok-no-3.ensures ∙ ap (λ (fs : List FormatItem). first (λ (f : grammar.FormatItem). option_map (λ y. FormatShape f.title y) (shape_fault f.pieces)) (map format_of fs)) c.deref-6.ensures.value in
    fault_shapes ARRIVAL WIDE n c.in-Some-3.no l a (sym shapes ∙ c.in-Some-3.is)

pub formats_of-requires-clause-sound : goal.formats_of-requires-clause-sound
formats_of-requires-clause-sound c =
    let n = narration_of c.args.n.now in
    let shapes = c.in_ok-no-3.ensures ∙ ap (λ (fs : List FormatItem). first (λ (f : grammar.FormatItem). option_map (λ y. FormatShape f.title y) (shape_fault f.pieces)) (map format_of fs)) c.deref-6.ensures.value in
    let m : misshapen n ≡ None = sym shapes ∙ c.in-None-3.is in
    let P : List FormatItem → Type 0 = λ fs. AllByRecursion (λ (f : grammar.FormatItem). IsSound f.pieces) (map format_of fs) in
    subst P (sym c.deref-7.ensures.value) (sound_formats n m c.requires.spellable)

pub returns-in-Some-4 : goal.returns-in-Some-4
returns-in-Some-4 c =
    let n = narration_of c.args.n.now in
    let l : first_fault limit_checks n ≡ None = sym c.in_ok-no.ensures ∙ c.in-None.is in
    let a : first_fault name_checks n ≡ None = sym c.in_ok-no-2.ensures ∙ c.in-None-2.is in
    let shapes = c.in_ok-no-3.ensures ∙ ap (λ (fs : List FormatItem). first (λ (f : grammar.FormatItem). option_map (λ y. FormatShape f.title y) (shape_fault f.pieces)) (map format_of fs)) c.deref-6.ensures.value in
    let m : misshapen n ≡ None = sym shapes ∙ c.in-None-3.is in
    let formats_are : c.in_ok-formats.formats.items ≡ formats_of n = c.in_ok-formats.ensures ∙ ap (λ (fs : List FormatItem). map format_value (map format_of fs)) c.deref-7.ensures.value in
    let over = c.in_ok-no-4.ensures ∙ ap (λ (fs : List FormatValue). first_after overlaps [] fs) (c.deref-8.ensures.value ∙ formats_are) in
    fault_overlaps ARRIVAL WIDE n c.in-Some-4.no l a m (sym over ∙ c.in-Some-4.is)

pub parts_of-requires-clause-few : goal.parts_of-requires-clause-few
parts_of-requires-clause-few c =
    let n = narration_of c.args.n.now in
    let l : first_fault limit_checks n ≡ None = sym c.in_ok-no.ensures ∙ c.in-None.is in
    let formats_are : c.in_ok-formats.formats.items ≡ formats_of n = c.in_ok-formats.ensures ∙ ap (λ (fs : List FormatItem). map format_value (map format_of fs)) c.deref-7.ensures.value in
    let P : List FormatValue → Type 0 = λ fs. AreFew fs in
    subst P (sym formats_are) (few_formats n l)

pub fault-requires : goal.fault-requires
fault-requires c =
    let n = narration_of c.args.n.now in
    let l : first_fault limit_checks n ≡ None = sym c.in_ok-no.ensures ∙ c.in-None.is in
    let a : first_fault name_checks n ≡ None = sym c.in_ok-no-2.ensures ∙ c.in-None-2.is in
    let shapes = c.in_ok-no-3.ensures ∙ ap (λ (fs : List FormatItem). first (λ (f : grammar.FormatItem). option_map (λ y. FormatShape f.title y) (shape_fault f.pieces)) (map format_of fs)) c.deref-6.ensures.value in
    let m : misshapen n ≡ None = sym shapes ∙ c.in-None-3.is in
    let P : ProtocolValue → Type 0 = λ p. CanBeChecked p in
    subst P (sym c.in_ok-parts.ensures) (can_be_checked n c.requires.spellable l a m)

pub returns-in-Some-5 : goal.returns-in-Some-5
returns-in-Some-5 c =
    let n = narration_of c.args.n.now in
    let l : first_fault limit_checks n ≡ None = sym c.in_ok-no.ensures ∙ c.in-None.is in
    let a : first_fault name_checks n ≡ None = sym c.in_ok-no-2.ensures ∙ c.in-None-2.is in
    let shapes = c.in_ok-no-3.ensures ∙ ap (λ (fs : List FormatItem). first (λ (f : grammar.FormatItem). option_map (λ y. FormatShape f.title y) (shape_fault f.pieces)) (map format_of fs)) c.deref-6.ensures.value in
    let m : misshapen n ≡ None = sym shapes ∙ c.in-None-3.is in
    let formats_are : c.in_ok-formats.formats.items ≡ formats_of n = c.in_ok-formats.ensures ∙ ap (λ (fs : List FormatItem). map format_value (map format_of fs)) c.deref-7.ensures.value in
    let over = c.in_ok-no-4.ensures ∙ ap (λ (fs : List FormatValue). first_after overlaps [] fs) (c.deref-8.ensures.value ∙ formats_are) in
    let o : overlap n ≡ None = sym over ∙ c.in-None-4.is in
    let found = c.in_ok-no-5.ensures ∙ ap (first_fault (protocol_checks ARRIVAL WIDE)) c.in_ok-parts.ensures in
    fault_protocol ARRIVAL WIDE n l a m o ∙ sym found ∙ c.in-Some-5.is

pub makes_names-requires : goal.makes_names-requires
makes_names-requires c =
    let n = narration_of c.args.n.now in
    let P : ProtocolValue → Type 0 = λ p. AllByRecursion (λ (a : ActionValue). a.from < length p.roles) p.actions in
    subst P (sym c.in_ok-parts.ensures) (ends_below n)

pub of-requires-clause-protocol : goal.of-requires-clause-protocol
of-requires-clause-protocol c =
    let n = narration_of c.args.n.now in
    let l : first_fault limit_checks n ≡ None = sym c.in_ok-no.ensures ∙ c.in-None.is in
    let a : first_fault name_checks n ≡ None = sym c.in_ok-no-2.ensures ∙ c.in-None-2.is in
    let shapes = c.in_ok-no-3.ensures ∙ ap (λ (fs : List FormatItem). first (λ (f : grammar.FormatItem). option_map (λ y. FormatShape f.title y) (shape_fault f.pieces)) (map format_of fs)) c.deref-6.ensures.value in
    let m : misshapen n ≡ None = sym shapes ∙ c.in-None-3.is in
    let formats_are : c.in_ok-formats.formats.items ≡ formats_of n = c.in_ok-formats.ensures ∙ ap (λ (fs : List FormatItem). map format_value (map format_of fs)) c.deref-7.ensures.value in
    let over = c.in_ok-no-4.ensures ∙ ap (λ (fs : List FormatValue). first_after overlaps [] fs) (c.deref-8.ensures.value ∙ formats_are) in
    let o : overlap n ≡ None = sym over ∙ c.in-None-4.is in
    let found = c.in_ok-no-5.ensures ∙ ap (first_fault (protocol_checks ARRIVAL WIDE)) c.in_ok-parts.ensures in
    record { narration = n; spellable = c.requires.spellable; well_formed = fault_protocol ARRIVAL WIDE n l a m o ∙ sym found ∙ c.in-None-5.is; is = c.in_ok-parts.ensures }

pub returns : goal.returns
returns c =
    let n = narration_of c.args.n.now in
    let l : first_fault limit_checks n ≡ None = sym c.in_ok-no.ensures ∙ c.in-None.is in
    let a : first_fault name_checks n ≡ None = sym c.in_ok-no-2.ensures ∙ c.in-None-2.is in
    let shapes = c.in_ok-no-3.ensures ∙ ap (λ (fs : List FormatItem). first (λ (f : grammar.FormatItem). option_map (λ y. FormatShape f.title y) (shape_fault f.pieces)) (map format_of fs)) c.deref-6.ensures.value in
    let m : misshapen n ≡ None = sym shapes ∙ c.in-None-3.is in
    let formats_are : c.in_ok-formats.formats.items ≡ formats_of n = c.in_ok-formats.ensures ∙ ap (λ (fs : List FormatItem). map format_value (map format_of fs)) c.deref-7.ensures.value in
    let over = c.in_ok-no-4.ensures ∙ ap (λ (fs : List FormatValue). first_after overlaps [] fs) (c.deref-8.ensures.value ∙ formats_are) in
    let o : overlap n ≡ None = sym over ∙ c.in-None-4.is in
    let found = c.in_ok-no-5.ensures ∙ ap (first_fault (protocol_checks ARRIVAL WIDE)) c.in_ok-parts.ensures in
    (fault_protocol ARRIVAL WIDE n l a m o ∙ sym found ∙ c.in-None-5.is, c.of.ensures ∙ c.in_ok-parts.ensures)
