use Rattle.std.proofs.Common.{◌≡◌, List, ℕ, map, ap, sym, ◌∙◌, subst, Option, Some, None}
use Rattle.std.specs.Prelude.{IfNone, IfOk, not}
use Rattle.anb_index.specs.Places.{among}
use Rattle.anb_lemmas.proofs.Options.{or_none}
use Rattle.anb_syntax.specs.declared.narration.FormatItem.{FormatItem}
use Rattle.anb_syntax.specs.Views.{format_of, narration_of}
use denote.Ref.{Bor}
use Rattle.anb_protocol.specs.declared.parts.Atom.{Atom}
use Rattle.anb_protocol.specs.declared.refusals.ResolveNo.{ResolveNo}
use Rattle.anb_protocol.specs.declared.refusals.ResolveNo.TheVariants.{Unknown, WrongSort, WrongCount}
use Rattle.anb_protocol.specs.Choices.{first, refuse_if}
use Rattle.anb_protocol.specs.Names.{Use, used_name, atoms, declared_names}
use Rattle.anb_protocol.specs.Checks.{declared_twice, line_twice, unknown, wrong_sort, wrong_count, is_missorted, is_miscounted, twice_among}
use Rattle.anb_protocol.specs.Views.{pointed}
use Rattle.anb_resolve.specs.Uses.{use_of}
use Rattle.anb_protocol.proofs.OrLemmas.{skip, stop}
use Rattle.anb_resolve.proofs.names.name_fault.Goals as goal

pub returns-in-Some-4 : goal.returns-in-Some-4
returns-in-Some-4 c =
    let n = narration_of c.args.n.now in
    let e1 : declared_twice n ≡ None = ap twice_among (sym c.requires.declared) ∙ sym c.in_ok-no.ensures.first ∙ c.in-None.is in
    let lines = ap (λ (ns : List (Bor (List ℕ))). pointed ns) c.deref.ensures.value ∙ c.in_ok-line_names.ensures in
    let e2 : line_twice n ≡ None = ap twice_among (sym lines) ∙ sym c.in_ok-no-2.ensures.first ∙ c.in-None-2.is in
    let P : Option ResolveNo → Type 0 = λ o. IfNone o (c.twice.new.seen ≡ pointed c.args.declared.now) in
    let seen : c.twice.new.seen ≡ pointed c.args.declared.now = subst P c.in-None.is c.in_ok-no.ensures.seen in
    let u1 = ap (λ (ds : List (List ℕ)). first (λ u. refuse_if (not (among ds (used_name u))) (Unknown (used_name u))) (map use_of c.args.uses.now)) (seen ∙ c.requires.declared)
    ∙ ap (λ (us : List Use). first (λ u. refuse_if (not (among (declared_names n) (used_name u))) (Unknown (used_name u))) us) c.requires.uses in
    let e3 : unknown n ≡ None = sym u1 ∙ sym c.in_ok-no-3.ensures ∙ c.in-None-3.is in
    let u2 = ap (λ (ds : List Atom). first (λ u. refuse_if (is_missorted ds (map format_of c.deref-2.result.now) u) (WrongSort (used_name u))) (map use_of c.args.uses.now)) c.requires.atoms
    ∙ ap (λ (fs : List FormatItem). first (λ u. refuse_if (is_missorted (atoms n) (map format_of fs) u) (WrongSort (used_name u))) (map use_of c.args.uses.now)) c.deref-2.ensures.value
    ∙ ap (λ (us : List Use). first (λ u. refuse_if (is_missorted (atoms n) n.formats u) (WrongSort (used_name u))) us) c.requires.uses in
    let e4 : wrong_sort n ≡ Some c.in-Some-4.no = sym u2 ∙ sym c.in_ok-no-4.ensures ∙ c.in-Some-4.is in
    sym (skip _ _ e1 ∙ skip _ _ e2 ∙ skip _ _ e3 ∙ stop _ _ _ e4)

pub returns : goal.returns
returns c =
    let n = narration_of c.args.n.now in
    let e1 : declared_twice n ≡ None = ap twice_among (sym c.requires.declared) ∙ sym c.in_ok-no.ensures.first ∙ c.in-None.is in
    let lines = ap (λ (ns : List (Bor (List ℕ))). pointed ns) c.deref.ensures.value ∙ c.in_ok-line_names.ensures in
    let e2 : line_twice n ≡ None = ap twice_among (sym lines) ∙ sym c.in_ok-no-2.ensures.first ∙ c.in-None-2.is in
    let P : Option ResolveNo → Type 0 = λ o. IfNone o (c.twice.new.seen ≡ pointed c.args.declared.now) in
    let seen : c.twice.new.seen ≡ pointed c.args.declared.now = subst P c.in-None.is c.in_ok-no.ensures.seen in
    let u1 = ap (λ (ds : List (List ℕ)). first (λ u. refuse_if (not (among ds (used_name u))) (Unknown (used_name u))) (map use_of c.args.uses.now)) (seen ∙ c.requires.declared)
    ∙ ap (λ (us : List Use). first (λ u. refuse_if (not (among (declared_names n) (used_name u))) (Unknown (used_name u))) us) c.requires.uses in
    let e3 : unknown n ≡ None = sym u1 ∙ sym c.in_ok-no-3.ensures ∙ c.in-None-3.is in
    let u2 = ap (λ (ds : List Atom). first (λ u. refuse_if (is_missorted ds (map format_of c.deref-2.result.now) u) (WrongSort (used_name u))) (map use_of c.args.uses.now)) c.requires.atoms
    ∙ ap (λ (fs : List FormatItem). first (λ u. refuse_if (is_missorted (atoms n) (map format_of fs) u) (WrongSort (used_name u))) (map use_of c.args.uses.now)) c.deref-2.ensures.value
    ∙ ap (λ (us : List Use). first (λ u. refuse_if (is_missorted (atoms n) n.formats u) (WrongSort (used_name u))) us) c.requires.uses in
    let e4 : wrong_sort n ≡ None = sym u2 ∙ sym c.in_ok-no-4.ensures ∙ c.in-None-4.is in
    let u3 = ap (λ (fs : List FormatItem). first (λ u. refuse_if (is_miscounted (map format_of fs) u) (WrongCount (used_name u))) (map use_of c.args.uses.now)) c.deref-3.ensures.value
    ∙ ap (λ (us : List Use). first (λ u. refuse_if (is_miscounted n.formats u) (WrongCount (used_name u))) us) c.requires.uses in
    let total = skip _ _ e1 ∙ skip _ _ e2 ∙ skip _ _ e3 ∙ skip _ _ e4 ∙ or_none (wrong_count n) in
    let Q : Option ResolveNo → Type 0 = λ o. IfOk c.wrong_count.result (λ r. r ≡ o) in
    subst Q (u3 ∙ sym total) c.wrong_count.ensures
