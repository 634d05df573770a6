use Rattle.std.proofs.Common.{ℕ, List, length, None, sym, ap, ◌∙◌, subst, arith}
use Rattle.std.specs.List.{list_any}
use Rattle.std.proofs.lemmas.Slice.Zip.{AllZip-long}
use Rattle.anb_lemmas.proofs.Lists.{item_at}
use Rattle.anb_plays.specs.Runs.{without_place}
use Rattle.anb_code.specs.CodeValue.{CodeValue}
use Rattle.anb_machine.specs.ByteRuns.{run_bytes}
use Rattle.anb_protocol.specs.Protocols.{ProtocolValue, role_number}
use Rattle.anb_compile.specs.Fitting.{FitsRole}
use Rattle.anb_choice.specs.Views.{branched_of}
use Rattle.anb_session.proofs.Faults.{wants_memory}
use Rattle.anb_session.proofs.Turning.{closes_wanting}
use Rattle.anb_branch.specs.declared.signs.Sign.{Sign}
use Rattle.anb_branch.specs.Taken.{run_taken}
use Rattle.anb_branch.specs.Signs.{AreSigns, IsSign}
use Rattle.anb_branch.proofs.Recorded.{taken_never}
use Rattle.anb_branch.proofs.Refusals.{have_role}
use Rattle.anb_branch.proofs.Seeing.{any_free}
use Rattle.anb_branch.proofs.Turns.{closes_as}
use Rattle.anb_branch.proofs.Deciding.{agree_each, run_untold}
use Rattle.anb_branch.proofs.recording.record_untold.Goals as goal

abbrev Fitting : List ℕ → ProtocolValue → CodeValue → Type 0
Fitting role arm code = FitsRole arm (role_number arm.roles role) code

pub signs_of-requires : goal.signs_of-requires
signs_of-requires g c = have_role (branched_of c.args.b.now) c.args.role.now c.requires.lawful c.requires.is_role

pub returns-in_default-clause-closes : goal.returns-in_default-clause-closes
returns-in_default-clause-closes g c =
    rw c.nothing.ensures (closes_wanting (run_taken (branched_of c.args.b.now) c.args.role.now None c.args.init.now c.args.seed.now c.args.codes.now) (g.W.Wire.state c.args.wire.now))

pub record_seeing-requires-clause-signs : goal.record_seeing-requires-clause-signs
record_seeing-requires-clause-signs g c =
    let b = branched_of c.args.b.now in
    ap length c.deref-then-is_free_somewhere.ensures.value ∙ AllZip-long (IsSign b.stem c.args.role.now) b.arms c.in-Ok.signs.items c.in-Ok.ensures

pub record_seeing-requires-clause-codes : goal.record_seeing-requires-clause-codes
record_seeing-requires-clause-codes g c = AllZip-long (Fitting c.args.role.now) (branched_of c.args.b.now).arms c.args.codes.now c.requires.fit

pub record_seeing-requires-clause-decides : goal.record_seeing-requires-clause-decides
record_seeing-requires-clause-decides g c =
    let b = branched_of c.args.b.now in
    let role = c.args.role.now in
    let P : List Sign → Type 0 = λ l. AreSigns b.stem role b.arms l in
    let free = sym (any_free b.stem role b.arms c.in-Ok.signs.items c.in-Ok.ensures) ∙ ap (λ l. list_any (λ (x : Sign). x.free) l) (sym c.deref.ensures.value) ∙ sym c.is_free_somewhere.ensures ∙ c.if-is_free_somewhere.true in (
      role,
      record {
        signs_are = subst P (sym c.deref-then-is_free_somewhere.ensures.value) c.in-Ok.ensures;
        free = free;
        each = agree_each b role c.args.init.now c.args.seed.now c.args.codes.now c.requires.fit c.requires.count c.requires.bytes c.requires.play c.requires.lawful c.requires.is_role c.requires.told free;
      },
    )

pub returns-then-is_free_somewhere-clause-closes : goal.returns-then-is_free_somewhere-clause-closes
returns-then-is_free_somewhere-clause-closes g c =
    let b = branched_of c.args.b.now in
    let role = c.args.role.now in
    let P : List Sign → Type 0 = λ l. AreSigns b.stem role b.arms l in
    let free = sym (any_free b.stem role b.arms c.in-Ok.signs.items c.in-Ok.ensures) ∙ ap (λ l. list_any (λ (x : Sign). x.free) l) (sym c.deref.ensures.value) ∙ sym c.is_free_somewhere.ensures ∙ c.if-is_free_somewhere.true in
    c.record_seeing.ensures.closes role (record {
      signs_are = subst P (sym c.deref-then-is_free_somewhere.ensures.value) c.in-Ok.ensures;
      free = free;
      each = agree_each b role c.args.init.now c.args.seed.now c.args.codes.now c.requires.fit c.requires.count c.requires.bytes c.requires.play c.requires.lawful c.requires.is_role c.requires.told free;
    })

pub returns-clause-closes : goal.returns-clause-closes
returns-clause-closes g c =
    let b = branched_of c.args.b.now in
    let role = c.args.role.now in
    let init = c.args.init.now in
    let seed = c.args.seed.now in
    let codes = c.args.codes.now in
    let code = c.index-codes-0.result in
    let long = AllZip-long (Fitting role) b.arms codes c.requires.fit in
    let at = item_at codes 0 code (omega (arith, long, c.requires.lawful.few)) c.index-codes-0.is in
    let free = sym (any_free b.stem role b.arms c.in-Ok.signs.items c.in-Ok.ensures) ∙ ap (λ l. list_any (λ (x : Sign). x.free) l) (sym c.deref.ensures.value) ∙ sym c.is_free_somewhere.ensures ∙ c.if-is_free_somewhere.false in
    closes_as (λ (more : List (List ℕ)). without_place (run_bytes code init seed 0 more)) (run_taken b role None init seed codes) (g.W.Wire.state c.args.wire.now) (g.W.Wire.state c.record_code.new.wire) c.record_code.result.end
    (run_untold b role init seed codes code free at)
    c.record_code.ensures.closes

pub returns-in_default-clause-faults : goal.returns-in_default-clause-faults
returns-in_default-clause-faults g c = rw c.nothing.ensures (wants_memory (g.W.Wire.state c.args.wire.now))

-- ---- what is recorded

pub returns-in_default-clause-recorded : goal.returns-in_default-clause-recorded
returns-in_default-clause-recorded g c = λ some. absurd (some c.nothing.ensures)

pub returns-then-is_free_somewhere-clause-recorded : goal.returns-then-is_free_somewhere-clause-recorded
returns-then-is_free_somewhere-clause-recorded g c =
    let b = branched_of c.args.b.now in
    let role = c.args.role.now in
    let P : List Sign → Type 0 = λ l. AreSigns b.stem role b.arms l in
    let free = sym (any_free b.stem role b.arms c.in-Ok.signs.items c.in-Ok.ensures) ∙ ap (λ l. list_any (λ (x : Sign). x.free) l) (sym c.deref.ensures.value) ∙ sym c.is_free_somewhere.ensures ∙ c.if-is_free_somewhere.true in
    c.record_seeing.ensures.recorded role (record {
      signs_are = subst P (sym c.deref-then-is_free_somewhere.ensures.value) c.in-Ok.ensures;
      free = free;
      each = agree_each b role c.args.init.now c.args.seed.now c.args.codes.now c.requires.fit c.requires.count c.requires.bytes c.requires.play c.requires.lawful c.requires.is_role c.requires.told free;
    })

pub returns-clause-recorded : goal.returns-clause-recorded
returns-clause-recorded g c = λ some.
    let b = branched_of c.args.b.now in
    let role = c.args.role.now in
    let codes = c.args.codes.now in
    let code = c.index-codes-0.result in
    let long = AllZip-long (Fitting role) b.arms codes c.requires.fit in
    let free = sym (any_free b.stem role b.arms c.in-Ok.signs.items c.in-Ok.ensures) ∙ ap (λ l. list_any (λ (x : Sign). x.free) l) (sym c.deref.ensures.value) ∙ sym c.is_free_somewhere.ensures ∙ c.if-is_free_somewhere.false in
    record {
      place = 0;
      code = code;
      at = item_at codes 0 code (omega (arith, long, c.requires.lawful.few)) c.index-codes-0.is;
      records = c.record_code.ensures.recorded some;
      taken = taken_never b role _ free;
    }
