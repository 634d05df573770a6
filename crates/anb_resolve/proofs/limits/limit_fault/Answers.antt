use Rattle.std.proofs.Common.{◌≡◌, ◌++◌, ◌∷◌, List, ℕ, length, map, ap, sym, ◌∙◌, subst, Option, Some, None}
use Rattle.std.specs.Prelude.{IfOk}
use Rattle.anb_format.specs.Formats.{field_count}
use Rattle.anb_syntax.specs.declared.narration.FormatItem.{FormatItem}
use Rattle.anb_syntax.specs.Grammar as grammar
use Rattle.anb_syntax.specs.Views.{format_of, narration_of}
use Rattle.anb_protocol.specs.declared.refusals.ResolveNo.{ResolveNo}
use Rattle.anb_protocol.specs.declared.refusals.Kind.TheVariants.{Name, Fields}
use Rattle.anb_protocol.specs.Choices.{first}
use Rattle.anb_protocol.specs.Names.{Use, used_name, declared_names}
use Rattle.anb_protocol.specs.Checks.{above, name_limit, format_limit, field_limit, role_limit, action_limit}
use Rattle.anb_resolve.specs.Uses.{use_of}
use Rattle.anb_protocol.proofs.OrLemmas.{skip, stop}
use Rattle.anb_resolve.proofs.limits.limit_fault.Goals as goal

pub returns-in-Some-field_limit : goal.returns-in-Some-field_limit
returns-in-Some-field_limit c =
    let n = narration_of c.args.n.now in
    let names_are = ap (λ (l : List (List ℕ)). l ++ map used_name (map use_of c.args.uses.now)) c.requires.declared ∙ ap (λ (l : List Use). declared_names n ++ map used_name l) c.requires.uses in
    let long = ap (λ (l : List (List ℕ)). first (λ (x : List ℕ). above 64 Name (length x)) (n.title ∷ l)) names_are in
    let e1 : name_limit n ≡ None = sym (c.in-None.ensures ∙ long) in
    let e2 : format_limit n ≡ None = sym c.in-None-format_limit.ensures in
    let fields = ap (λ (fs : List FormatItem). first (λ (f : grammar.FormatItem). above 32 Fields (field_count f.pieces)) (map format_of fs)) c.deref.ensures.value in
    let e3 : field_limit n ≡ Some c.in-Some-field_limit.no = sym (c.in-Some-field_limit.ensures ∙ fields) in
    sym (skip _ _ e1 ∙ skip _ _ e2 ∙ stop _ _ _ e3)

pub returns-in-Some-2 : goal.returns-in-Some-2
returns-in-Some-2 c =
    let n = narration_of c.args.n.now in
    let names_are = ap (λ (l : List (List ℕ)). l ++ map used_name (map use_of c.args.uses.now)) c.requires.declared ∙ ap (λ (l : List Use). declared_names n ++ map used_name l) c.requires.uses in
    let long = ap (λ (l : List (List ℕ)). first (λ (x : List ℕ). above 64 Name (length x)) (n.title ∷ l)) names_are in
    let e1 : name_limit n ≡ None = sym (c.in-None.ensures ∙ long) in
    let e2 : format_limit n ≡ None = sym c.in-None-format_limit.ensures in
    let fields = ap (λ (fs : List FormatItem). first (λ (f : grammar.FormatItem). above 32 Fields (field_count f.pieces)) (map format_of fs)) c.deref.ensures.value in
    let e3 : field_limit n ≡ None = sym (c.in-None-field_limit.ensures ∙ fields) in
    let e4 : role_limit n ≡ Some c.in-Some-2.no = sym c.in_ok-no.ensures ∙ c.in-Some-2.is in
    sym (skip _ _ e1 ∙ skip _ _ e2 ∙ skip _ _ e3 ∙ stop _ _ _ e4)

pub returns-in-Some-action_limit : goal.returns-in-Some-action_limit
returns-in-Some-action_limit c =
    let n = narration_of c.args.n.now in
    let names_are = ap (λ (l : List (List ℕ)). l ++ map used_name (map use_of c.args.uses.now)) c.requires.declared ∙ ap (λ (l : List Use). declared_names n ++ map used_name l) c.requires.uses in
    let long = ap (λ (l : List (List ℕ)). first (λ (x : List ℕ). above 64 Name (length x)) (n.title ∷ l)) names_are in
    let e1 : name_limit n ≡ None = sym (c.in-None.ensures ∙ long) in
    let e2 : format_limit n ≡ None = sym c.in-None-format_limit.ensures in
    let fields = ap (λ (fs : List FormatItem). first (λ (f : grammar.FormatItem). above 32 Fields (field_count f.pieces)) (map format_of fs)) c.deref.ensures.value in
    let e3 : field_limit n ≡ None = sym (c.in-None-field_limit.ensures ∙ fields) in
    let e4 : role_limit n ≡ None = sym c.in_ok-no.ensures ∙ c.in-None-2.is in
    let e5 : action_limit n ≡ Some c.in-Some-action_limit.no = sym c.in-Some-action_limit.ensures in
    sym (skip _ _ e1 ∙ skip _ _ e2 ∙ skip _ _ e3 ∙ skip _ _ e4 ∙ stop _ _ _ e5)

pub returns : goal.returns
returns c =
    let n = narration_of c.args.n.now in
    let names_are = ap (λ (l : List (List ℕ)). l ++ map used_name (map use_of c.args.uses.now)) c.requires.declared ∙ ap (λ (l : List Use). declared_names n ++ map used_name l) c.requires.uses in
    let long = ap (λ (l : List (List ℕ)). first (λ (x : List ℕ). above 64 Name (length x)) (n.title ∷ l)) names_are in
    let e1 : name_limit n ≡ None = sym (c.in-None.ensures ∙ long) in
    let e2 : format_limit n ≡ None = sym c.in-None-format_limit.ensures in
    let fields = ap (λ (fs : List FormatItem). first (λ (f : grammar.FormatItem). above 32 Fields (field_count f.pieces)) (map format_of fs)) c.deref.ensures.value in
    let e3 : field_limit n ≡ None = sym (c.in-None-field_limit.ensures ∙ fields) in
    let e4 : role_limit n ≡ None = sym c.in_ok-no.ensures ∙ c.in-None-2.is in
    let e5 : action_limit n ≡ None = sym c.in-None-action_limit.ensures in
    let total = skip _ _ e1 ∙ skip _ _ e2 ∙ skip _ _ e3 ∙ skip _ _ e4 ∙ skip _ _ e5 in
    let P : Option ResolveNo → Type 0 = λ o. IfOk c.node_limits.result (λ r. r ≡ o) in
    subst P (sym total) c.node_limits.ensures
