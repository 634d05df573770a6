use Rattle.std.proofs.Common.{◌≡◌, ℕ, ◌-◌, ◌<◌, List, [], ◌∷◌, ◌++◌, length, Some, sym, ap, ◌∙◌, subst, refl, arith}
use Rattle.std.specs.List.{range_with_len}
use Rattle.std.proofs.lemmas.List.FromFn.{length-range_with_len}
use Rattle.std.proofs.Common.{length-append}
use Rattle.anb_term.specs.Operator.{arity, keys}
use Rattle.std.specs.Prelude.{slice_get, count_by}
use Rattle.anb_term.proofs.Lists.{slice_get-at, slice_get-append}
use Rattle.anb_basis.specs.declared.check.Check.{Check}
use Rattle.anb_code.specs.declared.instr.Instr.TheVariants as instr
use Rattle.anb_code.specs.Taking.{take_texts}
use Rattle.anb_plays.specs.Codes.{works, undo}
use Rattle.anb_compile.specs.Writing.{IsCheckOf, Asks, count_opened}
use Rattle.anb_compile.specs.Verifying.{IsUndoing, LaysChecks}
use Rattle.anb_compile.specs.Counted.{is_building}
use Rattle.anb_compile.specs.Once.{IsChosenCheck}
use Rattle.anb_compile.proofs.Sharing.{sharing_on, none_put}
use Rattle.anb_compile.proofs.Laying.{open_lays, equal_lays}
use Rattle.anb_compile.proofs.Writing.{texts_put}
use Rattle.anb_compile.proofs.Asking.{open_asks, equal_asks}
use Rattle.anb_compile.proofs.writer.Writer.check.Goals as goal

pub compose_all-requires-clause-over : goal.compose_all-requires-clause-over
compose_all-requires-clause-over c =
    let over = subst (λ u. IsCheckOf c.requires.over.0 c.requires.over.1 (length c.args.self.now.places.items) u) c.in-Open.is c.requires.over.2 in
    (c.requires.over.0, over.2)

pub index-of-requires : goal.index-of-requires
index-of-requires c =
    let over = subst (λ u. IsCheckOf c.requires.over.0 c.requires.over.1 (length c.args.self.now.places.items) u) c.in-Open.is c.requires.over.2 in
    omega (arith, over.4, ap (λ p. length p.items) c.in_ok-keys-in-Open.ensures.places)

pub undone_instr-requires-clause-count : goal.undone_instr-requires-clause-count
undone_instr-requires-clause-count c =
    let over = subst (λ u. IsCheckOf c.requires.over.0 c.requires.over.1 (length c.args.self.now.places.items) u) c.in-Open.is c.requires.over.2 in
    ap length c.deref.ensures.value ∙ c.in_ok-keys-in-Open.ensures.count ∙ over.3

pub undone_instr-requires-clause-can : goal.undone_instr-requires-clause-can
undone_instr-requires-clause-can c =
    let over = subst (λ u. IsCheckOf c.requires.over.0 c.requires.over.1 (length c.args.self.now.places.items) u) c.in-Open.is c.requires.over.2 in
    over.1

pub compose-requires-clause-over : goal.compose-requires-clause-over
compose-requires-clause-over c =
    let over = subst (λ u. IsCheckOf c.requires.over.0 c.requires.over.1 (length c.args.self.now.places.items) u) c.in-Equal.is c.requires.over.2 in
    (c.requires.over.0, over.1)

pub index-entry-requires : goal.index-entry-requires
index-entry-requires c =
    let over = subst (λ u. IsCheckOf c.requires.over.0 c.requires.over.1 (length c.args.self.now.places.items) u) c.in-Equal.is c.requires.over.2 in
    omega (arith, over.0, ap (λ p. length p.items) c.in_ok-register-in-Equal.ensures.places)

pub returns-in_ok-place_next-in-Open-clause-places : goal.returns-in_ok-place_next-in-Open-clause-places
returns-in_ok-place_next-in-Open-clause-places c =
    let o = c.in-Open.x.op in
    let count : c.saturating_sub.result ≡ arity o - keys o = omega (arith, c.arity.ensures, c.keys.ensures, c.saturating_sub.ensures) in
    let opened : count_opened c.args.check.now ≡ arity o - keys o = ap count_opened c.in-Open.is in
    let e = c.in_ok-place_next-in-Open.ensures in
    let more = ap length e.places ∙ length-append c.put.new.self.places.items (range_with_len c.put.new.self.next c.saturating_sub.result) in
    let n = length-range_with_len c.put.new.self.next c.saturating_sub.result in
    omega (arith, count, opened, more, n, ap (λ p. length p.items) c.in_ok-put-in-Open.ensures.places, ap (λ p. length p.items) c.in_ok-keys-in-Open.ensures.places)

pub returns-in_ok-place_next-in-Open-clause-texts : goal.returns-in_ok-place_next-in-Open-clause-texts
returns-in_ok-place_next-in-Open-clause-texts c =
    ap (λ v. take_texts v.items) c.in_ok-place_next-in-Open.ensures.code
    ∙ texts_put c.compose_all.new.self.code.items c.put.new.self.code.items c.undone_instr.result c.in_ok-put-in-Open.ensures.code c.undone_instr.ensures.other ∙ c.in_ok-keys-in-Open.ensures.texts

pub returns-in_ok-place_next-in-Open-clause-asks : goal.returns-in_ok-place_next-in-Open-clause-asks
returns-in_ok-place_next-in-Open-clause-asks c =
    let w = c.args.self.now in
    let x = c.in-Open.x in
    let mid = c.compose_all.new.self in
    let put = c.put.new.self in
    let new = c.place_next.new.self in
    let of = c.index-of.result.now in
    let ns = c.in_ok-keys-in-Open.keys.items in
    let k = c.in_ok-keys-in-Open.ensures in
    let e = c.in_ok-place_next-in-Open.ensures in
    let p = c.in_ok-put-in-Open.ensures in
    let over = subst (λ u. IsCheckOf c.requires.over.0 c.requires.over.1 (length w.places.items) u) c.in-Open.is c.requires.over.2 in
    let within : x.of < length mid.places.items = omega (arith, over.4, ap (λ q. length q.items) k.places) in
    let count : c.saturating_sub.result ≡ arity x.op - keys x.op = omega (arith, c.arity.ensures, c.keys.ensures, c.saturating_sub.ensures) in
    let P : Check → Type 0 = λ u. Asks w new (u ∷ []) in
    let act = c.undone_instr.ensures.act in
    subst P (sym c.in-Open.is) (open_asks w mid put new x ns of c.saturating_sub.result c.undone_instr.result k.compose k.places (slice_get-at mid.places.items x.of of within c.index-of.ensures)
    p.code p.next p.places (λ formats has. act formats has ∙ ap (λ l. works (undo x.op l of)) c.deref.ensures.value) e.code e.next e.places (e.built ∙ p.built) count)

pub returns-in_ok-put-in-Equal-clause-texts : goal.returns-in_ok-put-in-Equal-clause-texts
returns-in_ok-put-in-Equal-clause-texts c =
    texts_put c.compose.new.self.code.items c.put-in-Equal.new.self.code.items (instr.Equal c.index-entry.result.now c.in_ok-register-in-Equal.register) c.in_ok-put-in-Equal.ensures.code refl ∙ c.in_ok-register-in-Equal.ensures.texts

pub returns-in_ok-put-in-Equal-clause-asks : goal.returns-in_ok-put-in-Equal-clause-asks
returns-in_ok-put-in-Equal-clause-asks c =
    let w = c.args.self.now in
    let n = c.in-Equal.n in
    let mid = c.compose.new.self in
    let new = c.put-in-Equal.new.self in
    let entry = c.index-entry.result.now in
    let k = c.in_ok-register-in-Equal.ensures in
    let p = c.in_ok-put-in-Equal.ensures in
    let over = subst (λ u. IsCheckOf c.requires.over.0 c.requires.over.1 (length w.places.items) u) c.in-Equal.is c.requires.over.2 in
    let within : n < length mid.places.items = omega (arith, over.0, ap (λ q. length q.items) k.places) in
    let P : Check → Type 0 = λ u. Asks w new (u ∷ []) in
    subst P (sym c.in-Equal.is) (equal_asks w mid new n entry c.in_ok-register-in-Equal.register c.in-Equal.made k.composes k.places (slice_get-at mid.places.items n entry within c.index-entry.ensures) p.code p.next p.places p.built)

pub returns-in_ok-place_next-in-Open-clause-lays : goal.returns-in_ok-place_next-in-Open-clause-lays
returns-in_ok-place_next-in-Open-clause-lays c =
    let w = c.args.self.now in
    let x = c.in-Open.x in
    let mid = c.compose_all.new.self in
    let put = c.put.new.self in
    let new = c.place_next.new.self in
    let of = c.index-of.result.now in
    let ns = c.in_ok-keys-in-Open.keys.items in
    let k = c.in_ok-keys-in-Open.ensures in
    let e = c.in_ok-place_next-in-Open.ensures in
    let p = c.in_ok-put-in-Open.ensures in
    let over = subst (λ u. IsCheckOf c.requires.over.0 c.requires.over.1 (length w.places.items) u) c.in-Open.is c.requires.over.2 in
    let within : x.of < length mid.places.items = omega (arith, over.4, ap (λ q. length q.items) k.places) in
    let count : c.saturating_sub.result ≡ arity x.op - keys x.op = omega (arith, c.arity.ensures, c.keys.ensures, c.saturating_sub.ensures) in
    let P : Check → Type 0 = λ u. LaysChecks w new (u ∷ []) in
    let U : List ℕ → Type 0 = λ l. IsUndoing x.op l of c.undone_instr.result in
    subst P (sym c.in-Open.is) (open_lays w mid put new x ns of c.saturating_sub.result c.undone_instr.result k.lay k.places (slice_get-at mid.places.items x.of of within c.index-of.ensures)
    p.code p.next p.places (subst U c.deref.ensures.value c.undone_instr.ensures.undoing) c.undone_instr.ensures.other e.code e.next e.places (e.built ∙ p.built) count)

pub returns-in_ok-put-in-Equal-clause-lays : goal.returns-in_ok-put-in-Equal-clause-lays
returns-in_ok-put-in-Equal-clause-lays c =
    let w = c.args.self.now in
    let n = c.in-Equal.n in
    let mid = c.compose.new.self in
    let new = c.put-in-Equal.new.self in
    let entry = c.index-entry.result.now in
    let k = c.in_ok-register-in-Equal.ensures in
    let p = c.in_ok-put-in-Equal.ensures in
    let over = subst (λ u. IsCheckOf c.requires.over.0 c.requires.over.1 (length w.places.items) u) c.in-Equal.is c.requires.over.2 in
    let within : n < length mid.places.items = omega (arith, over.0, ap (λ q. length q.items) k.places) in
    let P : Check → Type 0 = λ u. LaysChecks w new (u ∷ []) in
    subst P (sym c.in-Equal.is) (equal_lays w mid new n entry c.in_ok-register-in-Equal.register c.in-Equal.made k.lays k.places (slice_get-at mid.places.items n entry within c.index-entry.ensures) p.code p.next p.places p.built)

pub returns-in_ok-place_next-in-Open-clause-shares : goal.returns-in_ok-place_next-in-Open-clause-shares
returns-in_ok-place_next-in-Open-clause-shares c ts rs chosen s =
    let mid = c.compose_all.new.self in
    let put = c.put.new.self in
    let new = c.place_next.new.self in
    let e = c.in_ok-place_next-in-Open.ensures in
    let p = c.in_ok-put-in-Open.ensures in
    let keys = subst (IsChosenCheck ts rs) c.in-Open.is chosen.0 in
    let a = c.in_ok-keys-in-Open.ensures.share ts rs keys s in
    let count = ap (λ v. count_by is_building v.items) e.code ∙ none_put mid.code.items put.code.items c.undone_instr.result p.code c.undone_instr.ensures.building in
    let all : new.places.items ≡ mid.places.items ++ range_with_len put.next c.saturating_sub.result = e.places ∙ ap (λ q. q.items ++ range_with_len put.next c.saturating_sub.result) p.places in
    let entries : (n k : ℕ) → slice_get mid.places.items n ≡ Some k → slice_get new.places.items n ≡ Some k =
    λ n k h. (let P : List ℕ → Type 0 = λ l. slice_get l n ≡ Some k in subst P (sym all) (slice_get-append mid.places.items _ n k h)) in
    sharing_on ts rs rs mid new (λ us ms h. h) entries (e.built ∙ p.built) count a.sharing

pub returns-in_ok-put-in-Equal-clause-shares : goal.returns-in_ok-put-in-Equal-clause-shares
returns-in_ok-put-in-Equal-clause-shares c ts rs chosen s =
    let mid = c.compose.new.self in
    let new = c.put-in-Equal.new.self in
    let p = c.in_ok-put-in-Equal.ensures in
    let made = subst (IsChosenCheck ts rs) c.in-Equal.is chosen.0 in
    let a = c.in_ok-register-in-Equal.ensures.shares ts rs made s in
    let entries : (n k : ℕ) → slice_get mid.places.items n ≡ Some k → slice_get new.places.items n ≡ Some k = λ n k h. ap (λ q. slice_get q.items n) p.places ∙ h in
    sharing_on ts rs rs mid new (λ us ms h. h) entries p.built (none_put mid.code.items new.code.items _ p.code refl) a.sharing
