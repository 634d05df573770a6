-- What is emitted for a role is a verified code, which fits the role.
use Rattle.std.proofs.Common.{◌≡◌, ◌≢◌, ℕ, suc, ◌+◌, ◌<◌, ◌≤◌, List, [], ◌∷◌, ◌++◌, length, map, get_or, Some, refl, sym, ap, ◌∙◌, subst, arith, length-append, append_assoc}
use Rattle.std.specs.Prelude.{slice_get}
use Rattle.std.specs.Option.{option_map_or}
use Rattle.std.specs.List.{AllByRecursion, AllPairs}
use Rattle.std.proofs.lemmas.List.Elements.{All-from_recursion}
use Rattle.std.proofs.Math.Seq.{get_or-append_seam}
use Rattle.anb_base.specs.declared.TheConstants.{ARRIVAL, WIDE}
use Rattle.anb_base.specs.declared.content.Suite.{Suite}
use Rattle.anb_format.specs.Formats.{FormatValue, IsSound, field_count}
use Rattle.anb_term.specs.Tree.{nodes, tree_eqb}
use Rattle.std.specs.Set.{distinct_count}
use Rattle.anb_term.proofs.Lists.{slice_get-there}
use Rattle.anb_code.specs.declared.instr.Instr.{Instr}
use Rattle.anb_code.specs.CodeValue.{CodeValue}
use Rattle.anb_code.specs.Registers.{register_widths}
use Rattle.anb_code.specs.Taking.{take_texts}
use Rattle.anb_code.specs.Verified.{EachAfter, IsFormatAfter, IsVerifiedCode}
use Rattle.anb_protocol.specs.Protocols.{ProtocolValue}
use Rattle.anb_protocol.specs.Texts.{known_texts}
use Rattle.anb_protocol.specs.Plans.{plan_of}
use Rattle.anb_protocol.specs.Plays.{event_of, events_of}
use Rattle.anb_protocol.specs.Laws.{HoldsOf}
use Rattle.anb_compile.specs.Fitting.{FitsRole}
use Rattle.anb_compile.specs.Unsent.{labels_of}
use Rattle.anb_compile.specs.Counted.{count_demands, count_builds, count_subterms}
use Rattle.anb_compile.proofs.Sharing.{plan_subterms}
use Rattle.anb_compile.specs.Emitting.{IsAdmitted, Emits}
use Rattle.anb_compile.specs.RoleCodes.{role_code}

-- ---- formats

earlier_names : (before : List FormatValue) (format : FormatValue) (later : List FormatValue) → AllPairs (λ (one other : FormatValue). one.name ≢ other.name) (before ++ format ∷ later)
    → AllByRecursion (λ (earlier : FormatValue). earlier.name ≢ format.name) before
earlier_names [] format later pairs = tt
earlier_names (x ∷ before) format later pairs =
    let at : get_or (x ∷ (before ++ format ∷ later)) (suc (length before)) format ≡ format = get_or-append_seam before format later format in
    let D : FormatValue → Type 0 = λ q. x.name ≢ q.name in (
      subst D at (pairs 0 (suc (length before)) format (omega arith) (omega (arith, length-append before (format ∷ later)))),
      earlier_names before format later (λ i j d h k. pairs (suc i) (suc j) d (omega arith) (omega arith)),
    )

formats_after : (before formats : List FormatValue) → length before + length formats ≤ 64 → AllByRecursion (λ (format : FormatValue). field_count format.pieces ≤ 32) formats → AllByRecursion (λ (format : FormatValue). IsSound format.pieces) formats
    → AllPairs (λ (one other : FormatValue). one.name ≢ other.name) (before ++ formats) → EachAfter IsFormatAfter before formats
formats_after before [] few fields sound pairs = tt
formats_after before (f ∷ formats) few fields sound pairs =
    let P : List FormatValue → Type 0 = λ l. AllPairs (λ (one other : FormatValue). one.name ≢ other.name) l in
    let long = length-append before (f ∷ []) in (
      record { few = omega (arith, few); fields = fields.0; new = earlier_names before f formats pairs; sound = sound.0 },
      formats_after (before ++ f ∷ []) formats (omega (arith, few, long)) fields.1 sound.1 (subst P (sym (append_assoc before (f ∷ []) formats)) pairs),
    )

-- ---- the code

module _ (p : ProtocolValue) (role : ℕ) (instrs : List Instr) where
  pub is_verified : HoldsOf p → IsAdmitted p.formats instrs → IsVerifiedCode ARRIVAL WIDE (role_code p role instrs)
  is_verified holds is =
      let few = holds.formats in
      record {
        formats = formats_after [] p.formats (omega (arith, few)) holds.fields holds.sound holds.titles;
        instrs = is.instrs;
        narrow = All-from_recursion (λ w. w ≤ WIDE) (register_widths ARRIVAL p.formats instrs) is.narrow;
        few_instrs = is.few_instrs;
        few_registers = is.few_registers;
      }

  module _ (within : role < length p.roles) (texts : take_texts instrs ≡ known_texts p role) (emits : Emits (record { formats = p.formats; suite = p.suite; plan = events_of p role }) (plan_of p role) instrs) where
    pub fitted : (code : CodeValue) → code ≡ role_code p role instrs → FitsRole p role code
    fitted code is =
        let name = slice_get-there p.roles role within in
        subst (FitsRole p role) (sym is) (record {
          suite = refl;
          formats = refl;
          protocol = refl;
          name = name.1 ∙ sym (rw (name.1) refl);
          texts = texts;
          fits = emits.fits;
        })

    pub fitted_few : (code : CodeValue) → code ≡ role_code p role instrs → count_demands code ≤ nodes (labels_of (plan_of p role))
    fitted_few code is = let few = emits.few in omega (arith, ap count_demands is, few)

    pub fitted_once : (code : CodeValue) → code ≡ role_code p role instrs → count_builds code ≤ count_subterms (plan_of p role)
    fitted_once code is =
        let once = emits.once in
        let plan : events_of p role ≡ map event_of (plan_of p role) = refl in
        let same = plan_subterms (record { formats = p.formats; suite = p.suite; plan = events_of p role }) (plan_of p role) plan in
        omega (arith, ap count_builds is, once, ap (distinct_count tree_eqb) same)

-- its parts make it
pub parts_are : (p : ProtocolValue) (role : ℕ) (instrs : List Instr) (code : CodeValue) → code.protocol ≡ p.name → slice_get p.roles role ≡ Some code.role → code.suite ≡ p.suite → code.formats ≡ p.formats
    → code.instrs ≡ instrs → code ≡ role_code p role instrs
parts_are p role instrs code protocol name suite formats is =
    let mk : List ℕ → List ℕ → Suite → List FormatValue → List Instr → CodeValue = λ a b d e f. record { protocol = a; role = b; suite = d; formats = e; instrs = f } in
    let n = option_map_or (λ (x : List ℕ). x) (slice_get p.roles role) [] in
    let same : code.role ≡ n = sym (ap (λ o. option_map_or (λ (x : List ℕ). x) o []) name) in
    ap (λ a. mk a code.role code.suite code.formats code.instrs) protocol ∙ ap (λ b. mk p.name b code.suite code.formats code.instrs) same ∙ ap (λ d. mk p.name n d code.formats code.instrs) suite
    ∙ ap (λ e. mk p.name n p.suite e code.instrs) formats ∙ ap (mk p.name n p.suite p.formats) is
