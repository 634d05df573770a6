-- What holds of a protocol.
use Rattle.std.proofs.Common.{◌≡◌, ℕ, zero, suc, ◌≤◌, List, [], ◌∷◌, ◌++◌, length, sym, subst, arith, true, None}
use Rattle.std.specs.Prelude.{slice_get}
use Rattle.std.specs.Option.{option_map_or}
use Rattle.std.specs.List.{AllByRecursion, flat_map}
use Rattle.std.proofs.lemmas.List.{length-map}
use Rattle.anb_lemmas.proofs.Options.{none_mapped, or_is_none}
use Rattle.anb_lemmas.proofs.Each.{each_in_parts, each_by, each_of_map}
use Rattle.anb_base.specs.declared.TheConstants.{ARRIVAL, WIDE}
use Rattle.anb_format.specs.Formats.{FormatValue, field_count, is_sound}
use Rattle.anb_term.specs.Tree as term
use Rattle.anb_syntax.specs.Grammar.{FormatItem, Narration, IsFormatItem, IsSpellable}
use Rattle.anb_protocol.specs.declared.refusals.ResolveNo.TheVariants.{FormatShape}
use Rattle.anb_protocol.specs.declared.refusals.Kind.TheVariants.{Formats, Fields, Roles, Actions}
use Rattle.anb_protocol.specs.Names.{roles}
use Rattle.anb_protocol.specs.Protocols.{ProtocolValue, format_value, formats_of, protocol_of}
use Rattle.anb_protocol.specs.Texts.{IsTermOf, known_terms, known_by}
use Rattle.anb_protocol.specs.Plans.{messages}
use Rattle.anb_protocol.specs.Checks.{first_fault, limit_checks, name_checks, name_limit, format_limit, field_limit, role_limit, action_limit, declared_twice, line_twice, unknown, wrong_sort, wrong_count, misshapen, shape_fault}
use Rattle.anb_protocol.specs.WellFormed.{IsProtocol, AreFew}
use Rattle.anb_protocol.proofs.Faultless.{first_none, at_most, all_both, stages}
use Rattle.anb_protocol.proofs.Formed.{uses_right, terms_right}
use Rattle.anb_protocol.proofs.ShapeLemmas.{sound_pieces}

-- counts where no limit is passed
pub record IsWithin (n : Narration) : Type 0 where
  pub formats : length n.formats ≤ 64
  pub fields : AllByRecursion (λ (f : FormatItem). field_count f.pieces ≤ 32) n.formats
  pub roles : length (roles n) ≤ 32
  pub actions : length n.actions ≤ 256

pub within_limits : (n : Narration) → first_fault limit_checks n ≡ None → IsWithin n
within_limits n e =
    let a = or_is_none (name_limit n) _ e in
    let b = or_is_none (format_limit n) _ a.1 in
    let d = or_is_none (field_limit n) _ b.1 in
    let f = or_is_none (role_limit n) _ d.1 in
    let g = or_is_none (action_limit n) _ f.1 in
    record {
      formats = at_most 64 Formats (length n.formats) b.0;
      fields = each_by _ (λ (f : FormatItem). field_count f.pieces ≤ 32) (λ f e. at_most 32 Fields (field_count f.pieces) e) n.formats (first_none _ n.formats d.0);
      roles = at_most 32 Roles (length (roles n)) f.0;
      actions = at_most 256 Actions (length n.actions) g.0;
    }

pub few_formats : (n : Narration) → first_fault limit_checks n ≡ None → AreFew (formats_of n)
few_formats n e =
    let w = within_limits n e in
    record { formats = omega (arith, w.formats, length-map n.formats format_value); fields = each_of_map (λ (f : FormatValue). field_count f.pieces ≤ 32) format_value n.formats w.fields }

abbrev pub IsSoundItem : FormatItem → Type 0
IsSoundItem f = is_sound f.pieces ≡ true

pub sound_items : (n : Narration) → misshapen n ≡ None → AllByRecursion IsFormatItem n.formats → AllByRecursion IsSoundItem n.formats
sound_items n e s =
    let shapes = each_by _ (λ (f : FormatItem). shape_fault f.pieces ≡ None) (λ f h. none_mapped (λ x. FormatShape f.title x) (shape_fault f.pieces) h) n.formats (first_none _ n.formats e) in
    each_by _ IsSoundItem (λ f h. sound_pieces f.pieces h.0 h.1.1) n.formats (all_both (λ (f : FormatItem). shape_fault f.pieces ≡ None) IsFormatItem n.formats shapes s)

-- all terms are the protocol's, where names and formats are right
pub terms_ours : (n : Narration) → first_fault name_checks n ≡ None → misshapen n ≡ None → AllByRecursion IsFormatItem n.formats
    → AllByRecursion (IsTermOf (protocol_of n)) (known_terms (protocol_of n) ++ messages (protocol_of n).actions)
terms_ours n e m s =
    let a = or_is_none (declared_twice n) _ e in
    let b = or_is_none (line_twice n) _ a.1 in
    let d = or_is_none (unknown n) _ b.1 in
    let f = or_is_none (wrong_sort n) _ d.1 in
    let g = or_is_none (wrong_count n) _ f.1 in
    terms_right n (sound_items n m s) (uses_right n d.0 f.0 g.0)

-- what a protocol's own calls need
pub record Facts (p : ProtocolValue) : Type 0 where
  pub roles : length p.roles ≤ 32
  pub actions : length p.actions ≤ 256
  pub knows : length p.knows ≡ length p.roles
  pub terms : AllByRecursion (IsTermOf p) (known_terms p ++ messages p.actions)

pub facts_of_narration : (n : Narration) → IsSpellable n → first_fault limit_checks n ≡ None → first_fault name_checks n ≡ None → misshapen n ≡ None → Facts (protocol_of n)
unfolding protocol_of
facts_of_narration n s l a m =
    let w = within_limits n l in
    record {
      roles = w.roles;
      actions = omega (arith, w.actions, length-map n.actions (Rattle.anb_protocol.specs.Protocols.action_of (Rattle.anb_protocol.specs.Names.atoms n) (formats_of n) (roles n)));
      knows = length-map (roles n) _;
      terms = terms_ours n a m s.valid.formats;
    }

pub facts : (p : ProtocolValue) → IsProtocol p → Facts p
facts p i =
    let st = stages ARRIVAL WIDE i.narration i.well_formed in
    let m = or_is_none (misshapen i.narration) _ st.formats in
    let P : ProtocolValue → Type 0 = λ q. Facts q in
    subst P (sym i.is) (facts_of_narration i.narration i.spellable st.limits st.names m.0)

known_at : (p : ProtocolValue) (knows : List (List term.Tree)) (role : ℕ) → AllByRecursion (IsTermOf p) (flat_map (λ (ts : List term.Tree). ts) knows)
    → AllByRecursion (IsTermOf p) (option_map_or (λ (ts : List term.Tree). ts) (slice_get knows role) [])
known_at p [] role a = tt
known_at p (ts ∷ knows) zero a = (each_in_parts (IsTermOf p) ts (flat_map (λ (us : List term.Tree). us) knows) a).0
known_at p (ts ∷ knows) (suc role) a = known_at p knows role (each_in_parts (IsTermOf p) ts (flat_map (λ (us : List term.Tree). us) knows) a).1

-- what one role knows is among what all know
pub known_ours : (p : ProtocolValue) (role : ℕ) → AllByRecursion (IsTermOf p) (known_terms p) → AllByRecursion (IsTermOf p) (known_by p role)
known_ours p role a = known_at p p.knows role a
