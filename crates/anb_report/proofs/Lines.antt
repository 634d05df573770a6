-- Lines, part by part, and the lines of one action more.
use Rattle.std.proofs.Common.{◌≡◌, ℕ, ◌+◌, ◌<◌, List, [], ◌∷◌, ◌++◌, length, map, drop, get_or, Bool, true, false, Some, cond, refl, sym, ap, ◌∙◌, arith, append_assoc, length-append}
use Rattle.std.specs.Prelude.{codes, count_by, decimal, slice_get, unwrap_or}
use Rattle.std.proofs.lemmas.List.Sums.{sum_by-append, sum_by-cons}
use Rattle.std.proofs.lemmas.Option.{get_or_from_slice_get}
use Rattle.anb_lemmas.proofs.Lists.{drop_got, drop_at_got}
use Rattle.anb_code.specs.CodeValue.{CodeValue}
use Rattle.anb_protocol.specs.declared.parts.Action.{Action}
use Rattle.anb_protocol.specs.Choices.{each_after}
use Rattle.anb_protocol.specs.Plans.{made_at, names_made_at}
use Rattle.anb_protocol.specs.Protocols.{ActionValue, ProtocolValue}
use Rattle.anb_protocol.specs.Texts.{atom_name}
use Rattle.anb_protocol.specs.Views.{action_value}
use Rattle.anb_chart.specs.Charts as chart
use Rattle.anb_explain.specs.Explained.{line}
use Rattle.anb_explain.proofs.Lines.{counted_one}
use Rattle.anb_pattern.specs.Taken.{TakenValue}
use Rattle.anb_report.specs.Remarks.{is_repeated, repeated, unused}
use Rattle.anb_report.specs.RoleCharts.{noted_lines, noted_text}
use Rattle.anb_report.specs.Reporting.{action_lines, action_text, is_own, notes_line, role_after, role_report, start_lines, taken_at}

pub event_put : (old event action peer text new : List ℕ)
    → (((((((((old ++ codes "  event ") ++ event) ++ codes ", action ") ++ action) ++ codes ", ") ++ peer) ++ codes ": ") ++ text) ++ new) ++ 10 ∷ []
    ≡ old ++ line (codes "  event " ++ (event ++ (codes ", action " ++ (action ++ (codes ", " ++ (peer ++ (codes ": " ++ (text ++ new))))))))
event_put old event action peer text new = simp append_assoc

pub start_some : (notes : List (List ℕ)) → 0 < length notes → start_lines notes ≡ codes "  event 0, at the beginning\n" ++ notes_line notes
start_some [] some = absurd (omega (arith, some))
start_some (note ∷ notes) some = refl

pub note_put : (old from note : List ℕ) → ((((old ++ codes "    Note over ") ++ from) ++ codes ": ") ++ note) ++ 10 ∷ [] ≡ old ++ chart.line (codes "Note over " ++ (from ++ (codes ": " ++ note)))
note_put old from note = simp append_assoc

pub unused_put : (old : List ℕ) (there : Bool) (kind name : List ℕ) → there ≡ false
    → (((old ++ codes "note: nothing uses ") ++ kind) ++ name) ++ 10 ∷ [] ≡ old ++ unused there kind name
unused_put old there kind name e = rw e (simp append_assoc)

pub repeated_put : (actions : List ActionValue) (old : List ℕ) (i : ℕ) → is_repeated actions i ≡ true
    → (((((old ++ codes "note: actions ") ++ decimal (i + 1)) ++ codes " and ") ++ decimal (i + 2)) ++ codes " have the same message") ++ 10 ∷ [] ≡ old ++ repeated actions i
repeated_put actions old i e = rw e (simp append_assoc)

-- ---- one action more

pub counted_on : (test : ActionValue → Bool) (before : List ActionValue) (a : ActionValue) → count_by test (before ++ a ∷ []) ≡ count_by test before + counted_one (test a)
counted_on test before a = omega (arith, sum_by-append (λ x. cond (test x) 1 0) before (a ∷ []), sum_by-cons (λ x. cond (test x) 1 0) a [])

module _ (p : ProtocolValue) (actions : List Action) (i : ℕ) (x : Action) (here : slice_get actions i ≡ Some x) (made : List (List (List ℕ)))
    (before : List ActionValue) (many : length before ≡ i) (due : drop i made ≡ each_after (names_made_at p) before (map action_value (drop i actions))) where
  abbrev value : ActionValue
  value = action_value x

  abbrev later : List ActionValue
  later = map action_value (drop (i + 1) actions)

  abbrev its_names : List (List ℕ)
  its_names = map (atom_name p) (made_at p before value)

  item : map action_value (drop i actions) ≡ value ∷ later
  item = ap (map action_value) (drop_at_got actions i x here)

  there : (slice_get made i ≡ Some its_names) × (drop (i + 1) made ≡ each_after (names_made_at p) (before ++ value ∷ []) later)
  there = drop_got made (each_after (names_made_at p) (before ++ value ∷ []) later) i its_names (due ∙ ap (each_after (names_made_at p) before) item)

  pub lines_first : (role : ℕ) (notes : List (List (List ℕ))) (event : ℕ) (names : List (List ℕ)) → event ≡ count_by (is_own role) before → names ≡ get_or made i names
      → each_after (action_text p role notes) before (map action_value (drop i actions))
      ≡ action_lines p role notes (event + 1) (i + 1) value names ++ each_after (action_text p role notes) (before ++ value ∷ []) later
  lines_first role notes event names own given =
      let these : its_names ≡ names = sym (given ∙ get_or_from_slice_get made i its_names names there.0) in
      ap (each_after (action_text p role notes) before) item
      ∙ ap (λ l. l ++ each_after (action_text p role notes) (before ++ value ∷ []) later)
      (ap (λ n. action_lines p role notes (n + 1) (length before + 1) value its_names) (sym own)
      ∙ ap (λ n. action_lines p role notes (event + 1) (n + 1) value its_names) many ∙ ap (action_lines p role notes (event + 1) (i + 1) value) these)

  pub made_on : drop (i + 1) made ≡ each_after (names_made_at p) (before ++ value ∷ []) later
  made_on = there.1

  pub many_on : length (before ++ value ∷ []) ≡ i + 1
  many_on = omega (arith, length-append before (value ∷ []), many)

-- ---- one arrow more, with notes

module _ (p : ProtocolValue) (actions : List Action) (i : ℕ) (x : Action) (here : slice_get actions i ≡ Some x) (before : List ActionValue) (many : length before ≡ i) where
  pub noted_first : (role : ℕ) (notes : List (List (List ℕ))) (event : ℕ) → event ≡ count_by (is_own role) before
      → each_after (noted_text p role notes) before (map action_value (drop i actions))
      ≡ noted_lines p role notes (event + 1) (i + 1) (action_value x) ++ each_after (noted_text p role notes) (before ++ action_value x ∷ []) (map action_value (drop (i + 1) actions))
  noted_first role notes event own =
      let later = map action_value (drop (i + 1) actions) in
      ap (λ (l : List Action). each_after (noted_text p role notes) before (map action_value l)) (drop_at_got actions i x here)
      ∙ ap (λ l. l ++ each_after (noted_text p role notes) (before ++ action_value x ∷ []) later)
      (ap (λ n. noted_lines p role notes (n + 1) (length before + 1) (action_value x)) (sym own) ∙ ap (λ n. noted_lines p role notes (event + 1) (n + 1) (action_value x)) many)

pub one_longer : (before : List ActionValue) (a : ActionValue) (i : ℕ) → length before ≡ i → length (before ++ a ∷ []) ≡ i + 1
one_longer before a i many = omega (arith, length-append before (a ∷ []), many)

-- ---- one role more

pub role_first : (p : ProtocolValue) (taken : List TakenValue) (codes_of : List CodeValue) (i : ℕ) (x : CodeValue) (t : TakenValue) (before : List CodeValue) → slice_get codes_of i ≡ Some x → slice_get taken i ≡ Some t → length before ≡ i
    → each_after (role_after p taken) before (drop i codes_of) ≡ role_report p i x t ++ each_after (role_after p taken) (before ++ x ∷ []) (drop (i + 1) codes_of)
role_first p taken codes_of i x t before here there many =
    let rest = each_after (role_after p taken) (before ++ x ∷ []) (drop (i + 1) codes_of) in
    ap (each_after (role_after p taken) before) (drop_at_got codes_of i x here)
    ∙ ap (λ n. role_report p n x (taken_at taken n) ++ rest) many
    ∙ ap (λ o. role_report p i x (unwrap_or o (record { notes = []; lines = []; unchecked = [] })) ++ rest) there

pub code_longer : (before : List CodeValue) (x : CodeValue) (i : ℕ) → length before ≡ i → length (before ++ x ∷ []) ≡ i + 1
code_longer before x i many = omega (arith, length-append before (x ∷ []), many)
