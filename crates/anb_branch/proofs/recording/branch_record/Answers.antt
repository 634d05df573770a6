use Rattle.std.proofs.Common.{◌≡◌, ◌-◌, ◌<◌, ℕ, List, length, refl, sym, subst, arith}
use Rattle.std.specs.Prelude.{Some, Option}
use Rattle.std.specs.List.{AllByRecursion}
use Rattle.std.proofs.lemmas.Slice.Zip.{AllZip-long}
use Rattle.anb_lemmas.proofs.Lists.{item_at}
use Rattle.anb_plays.specs.Runs.{without_place}
use Rattle.anb_code.specs.CodeValue.{CodeValue}
use Rattle.anb_code.specs.Taking.{take_texts}
use Rattle.anb_machine.specs.ByteRuns.{run_bytes}
use Rattle.anb_protocol.specs.Protocols.{ProtocolValue, role_number}
use Rattle.anb_compile.specs.Fitting.{FitsRole}
use Rattle.anb_compile.specs.Laws.{FittingCodesPlay}
use Rattle.anb_session.specs.Turns.{Ends, Closes}
use Rattle.anb_choice.specs.Views.{branched_of}
use Rattle.anb_session.proofs.Turning.{by_told}
use Rattle.anb_branch.specs.Taken.{IsTold, run_taken}
use Rattle.anb_branch.specs.Recorded.{RecordsTaken}
use Rattle.anb_branch.proofs.Recorded.{codes_play}
use Rattle.anb_branch.proofs.Turns.{closes_as}
use Rattle.anb_branch.proofs.Deciding.{plays_taken, run_told}
use Rattle.anb_branch.proofs.recording.branch_record.Goals as goal

abbrev Fitting : List ℕ → ProtocolValue → CodeValue → Type 0
Fitting role arm code = FitsRole arm (role_number arm.roles role) code

pub bounds-codes-number : goal.bounds-codes-number
bounds-codes-number g c =
    let b = branched_of c.args.b.now in
    let P : Option ℕ → Type 0 = λ o. IsTold b c.args.role.now o in
    let told = subst P c.in-Some.is c.requires.told in
    omega (arith, told.1, told.2, AllZip-long (Fitting c.args.role.now) b.arms c.args.codes.now c.requires.fit)

pub record_code-requires-clause-count : goal.record_code-requires-clause-count
record_code-requires-clause-count g c =
    let b = branched_of c.args.b.now in
    let P : Option ℕ → Type 0 = λ o. IsTold b c.args.role.now o in
    let told = subst P c.in-Some.is c.requires.told in
    let place = c.in-Some.number - 1 in
    let code = c.index-codes-number.result in
    let within : place < length c.args.codes.now = omega (arith, told.1, told.2, AllZip-long (Fitting c.args.role.now) b.arms c.args.codes.now c.requires.fit) in
    let Q : CodeValue → Type 0 = λ k. length c.args.init.now ≡ length (take_texts k.instrs) in
    subst Q (sym c.index-codes-number.is) (c.requires.count place code within)

pub returns-in-Some-clause-runs : goal.returns-in-Some-clause-runs
returns-in-Some-clause-runs g c =
    let b = branched_of c.args.b.now in
    let role = c.args.role.now in
    let init = c.args.init.now in
    let seed = c.args.seed.now in
    let codes = c.args.codes.now in
    let P : Option ℕ → Type 0 = λ o. IsTold b role o in
    let told = subst P c.in-Some.is c.requires.told in
    let number = c.in-Some.number in
    let code = c.index-codes-number.result in
    let within : number - 1 < length codes = omega (arith, told.1, told.2, AllZip-long (Fitting role) b.arms codes c.requires.fit) in
    let s = g.W.Wire.state c.args.wire.now in
    let t = g.W.Wire.state c.record_code.new.wire in
    let end = c.record_code.result.end in
    let mine = closes_as (λ (more : List (List ℕ)). without_place (run_bytes code init seed 0 more)) (run_taken b role (Some number) init seed codes) s t end
    (run_told b role init seed codes number code (item_at codes (number - 1) code within c.index-codes-number.is)) c.record_code.ensures.closes in
    let Q : Option ℕ → Type 0 = λ o. Closes (run_taken b role o init seed codes) s t end in
    let closes = subst Q (sym c.in-Some.is) mine in
    by_told (λ x y z w. Ends (run_taken b role c.args.told init seed codes) x y z w end) _ s _ t (sym (g.met.W.Wire.state_tells c.args.wire.now)) (sym (g.met.W.Wire.state_tells c.record_code.new.wire)) closes.ends

pub returns-in-Some-clause-prompt : goal.returns-in-Some-clause-prompt
returns-in-Some-clause-prompt g c =
    let b = branched_of c.args.b.now in
    let role = c.args.role.now in
    let init = c.args.init.now in
    let seed = c.args.seed.now in
    let codes = c.args.codes.now in
    let P : Option ℕ → Type 0 = λ o. IsTold b role o in
    let told = subst P c.in-Some.is c.requires.told in
    let number = c.in-Some.number in
    let code = c.index-codes-number.result in
    let within : number - 1 < length codes = omega (arith, told.1, told.2, AllZip-long (Fitting role) b.arms codes c.requires.fit) in
    let s = g.W.Wire.state c.args.wire.now in
    let t = g.W.Wire.state c.record_code.new.wire in
    let end = c.record_code.result.end in
    let mine = closes_as (λ (more : List (List ℕ)). without_place (run_bytes code init seed 0 more)) (run_taken b role (Some number) init seed codes) s t end
    (run_told b role init seed codes number code (item_at codes (number - 1) code within c.index-codes-number.is)) c.record_code.ensures.closes in
    let Q : Option ℕ → Type 0 = λ o. Closes (run_taken b role o init seed codes) s t end in
    let closes = subst Q (sym c.in-Some.is) mine in
    closes.prompt

pub returns-in-Some-clause-plays : goal.returns-in-Some-clause-plays
returns-in-Some-clause-plays g c =
    let b = branched_of c.args.b.now in
    let law : AllByRecursion FittingCodesPlay b.arms = rw c.deref.ensures.value at c.all_play.ensures in
    plays_taken b c.args.role.now c.args.init.now c.args.seed.now c.args.codes.now c.requires.fit c.requires.count c.are_bytes_all.ensures law c.args.told (omega (arith, c.requires.lawful.few)) c.requires.told

pub returns-in-None-clause-runs : goal.returns-in-None-clause-runs
returns-in-None-clause-runs g c =
    let b = branched_of c.args.b.now in
    let role = c.args.role.now in
    let init = c.args.init.now in
    let seed = c.args.seed.now in
    let codes = c.args.codes.now in
    let s = g.W.Wire.state c.args.wire.now in
    let t = g.W.Wire.state c.record_untold.new.wire in
    let end = c.record_untold.result.end in
    let Q : Option ℕ → Type 0 = λ o. Closes (run_taken b role o init seed codes) s t end in
    let closes = subst Q (sym c.in-None.is) c.record_untold.ensures.closes in
    by_told (λ x y z w. Ends (run_taken b role c.args.told init seed codes) x y z w end) _ s _ t (sym (g.met.W.Wire.state_tells c.args.wire.now)) (sym (g.met.W.Wire.state_tells c.record_untold.new.wire)) closes.ends

pub returns-in-None-clause-plays : goal.returns-in-None-clause-plays
returns-in-None-clause-plays g c =
    let b = branched_of c.args.b.now in
    let law : AllByRecursion FittingCodesPlay b.arms = rw c.deref.ensures.value at c.all_play.ensures in
    plays_taken b c.args.role.now c.args.init.now c.args.seed.now c.args.codes.now c.requires.fit c.requires.count c.are_bytes_all.ensures law c.args.told (omega (arith, c.requires.lawful.few)) c.requires.told

pub returns-in-Some-clause-arms : goal.returns-in-Some-clause-arms
returns-in-Some-clause-arms g c =
    let b = branched_of c.args.b.now in
    let law : AllByRecursion FittingCodesPlay b.arms = rw c.deref.ensures.value at c.all_play.ensures in
    codes_play b c.args.role.now c.args.init.now c.args.seed.now c.args.codes.now c.requires.fit c.requires.count c.are_bytes_all.ensures law

pub returns-in-None-clause-arms : goal.returns-in-None-clause-arms
returns-in-None-clause-arms g c =
    let b = branched_of c.args.b.now in
    let law : AllByRecursion FittingCodesPlay b.arms = rw c.deref.ensures.value at c.all_play.ensures in
    codes_play b c.args.role.now c.args.init.now c.args.seed.now c.args.codes.now c.requires.fit c.requires.count c.are_bytes_all.ensures law

pub returns-in-Some-clause-recorded : goal.returns-in-Some-clause-recorded
returns-in-Some-clause-recorded g c = λ some.
    let b = branched_of c.args.b.now in
    let role = c.args.role.now in
    let codes = c.args.codes.now in
    let P : Option ℕ → Type 0 = λ o. IsTold b role o in
    let told = subst P c.in-Some.is c.requires.told in
    let number = c.in-Some.number in
    let code = c.index-codes-number.result in
    let within : number - 1 < length codes = omega (arith, told.1, told.2, AllZip-long (Fitting role) b.arms codes c.requires.fit) in
    let Q : Option ℕ → Type 0 = λ o. RecordsTaken b role o c.args.init.now c.args.seed.now codes c.args.file.now (g.J.Store.state c.args.journal.now) (g.J.Store.state c.record_code.new.journal) c.record_code.result.kept (g.W.Wire.state c.args.wire.now).left c.record_code.result.end in
    subst Q (sym c.in-Some.is) (record {
      place = number - 1;
      code = code;
      at = item_at codes (number - 1) code within c.index-codes-number.is;
      records = c.record_code.ensures.recorded some;
      taken = refl;
    })

pub returns-in-None-clause-recorded : goal.returns-in-None-clause-recorded
returns-in-None-clause-recorded g c = λ some.
    let Q : Option ℕ → Type 0 = λ o. RecordsTaken (branched_of c.args.b.now) c.args.role.now o c.args.init.now c.args.seed.now c.args.codes.now c.args.file.now (g.J.Store.state c.args.journal.now) (g.J.Store.state c.record_untold.new.journal) c.record_untold.result.kept (g.W.Wire.state c.args.wire.now).left c.record_untold.result.end in
    subst Q (sym c.in-None.is) (c.record_untold.ensures.recorded some)
