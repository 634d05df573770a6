use Rattle.std.proofs.Common.{◌≡◌, ℕ, ◌+◌, ◌*◌, ◌≤◌, List, length, take, take_all, refl, sym, ap, ◌∙◌, subst, arith}
use Rattle.anb_lemmas.proofs.Each.{take_next, each_got}
use Rattle.anb_term.proofs.Lists.{slice_get-at}
use Rattle.anb_basis.specs.declared.check.Check.{Check}
use Rattle.anb_compile.specs.Writing.{IsCheckOf, Asks, count_all_opened}
use Rattle.anb_compile.specs.Verifying.{GrowsBy, LaysChecks, room_for}
use Rattle.anb_compile.specs.Once.{SharesChecks}
use Rattle.anb_compile.proofs.Sharing.{none_shares_checks, more_share_checks}
use Rattle.anb_compile.proofs.Laying.{none_lay_checks, more_lay_checks, grows_none, grows_on}
use Rattle.anb_compile.proofs.Asking.{checks_at, count_more, none_asks, more_asks}
use Rattle.anb_compile.proofs.writer.Writer.checks.Goals as goal

pub loop-check-init : goal.loop-check-init
loop-check-init c = record { places = omega arith; texts = refl; asks = none_asks c.args.self.now; lays = none_lay_checks c.args.self.now; shares = none_shares_checks c.args.self.now; grows = grows_none c.args.self.now }

pub check-requires-clause-over : goal.check-requires-clause-over
check-requires-clause-over c =
    let x = c.check-item.result in
    let i = c.loop-check.check-index in
    let has = c.requires.over.0 in
    let entries = c.requires.over.1 in
    let a = checks_at has entries (length c.args.self.now.places.items) c.args.checks.now i x c.requires.over.2 (slice_get-at c.args.checks.now i x (omega arith) c.check-item.is) in
    let P : ℕ → Type 0 = λ n. IsCheckOf has entries n x in
    (has, entries, subst P (sym c.loop-check.invariant.places) a)

pub check-requires-clause-room : goal.check-requires-clause-room
check-requires-clause-room c =
    let x = c.check-item.result in
    let i = c.loop-check.check-index in
    let items = c.args.checks.now in
    let small = each_got (λ q. room_for q ≤ 1025) items i x c.requires.small (slice_get-at items i x (omega arith) c.check-item.is) in
    let grown = c.loop-check.invariant.grows.registers in
    let room = c.requires.room in
    omega (arith, small, grown, room)

pub loop-check-preserved : goal.loop-check-preserved
loop-check-preserved c =
    let x = c.check-item.result in
    let i = c.loop-check.check-index in
    let items = c.args.checks.now in
    let v = c.loop-check.invariant in
    let e = c.in_ok-check.ensures in
    let new = c.check.new.self in
    let first = c.args.self.now in
    let on = take_next items i x (omega arith) c.check-item.is in
    let P : List Check → Type 0 = λ l. Asks first new l in
    let Q : List Check → Type 0 = λ l. LaysChecks first new l in
    let small = each_got (λ q. room_for q ≤ 1025) items i x c.requires.small (slice_get-at items i x (omega arith) c.check-item.is) in
    record {
      places = omega (arith, e.places, v.places, ap count_all_opened on, count_more (take i items) x);
      texts = e.texts ∙ v.texts;
      asks = subst P (sym on) (more_asks first c.loop-check.self new (take i items) x v.asks v.places e.asks);
      lays = subst Q (sym on) (more_lay_checks first c.loop-check.self new (take i items) x v.lays v.places e.lays);
      shares = (let R : List Check → Type 0 = λ l. SharesChecks first new l in subst R (sym on) (more_share_checks first c.loop-check.self new (take i items) x v.shares e.shares));
      grows = grows_on first c.loop-check.self new (1025 * i) (room_for x) (1025 * (i + 1)) v.grows e.grows (omega (arith, small));
    }

pub returns : goal.returns
returns c =
    let v = c.loop-check.invariant in
    let items = c.args.checks.now in
    let whole : take c.loop-check.check-index items ≡ items = take_all c.loop-check.check-index items (omega arith) in
    let P : List Check → Type 0 = λ l. Asks c.args.self.now c.loop-check.self l in
    let Q : List Check → Type 0 = λ l. LaysChecks c.args.self.now c.loop-check.self l in
    let all : c.loop-check.check-index ≡ length items = omega arith in
    let G : ℕ → Type 0 = λ n. GrowsBy c.args.self.now c.loop-check.self (1025 * n) in
    let R : List Check → Type 0 = λ l. SharesChecks c.args.self.now c.loop-check.self l in
    record { places = omega (arith, v.places, ap count_all_opened whole); texts = v.texts; asks = subst P whole v.asks; lays = subst Q whole v.lays; shares = subst R whole v.shares; grows = subst G all v.grows }
