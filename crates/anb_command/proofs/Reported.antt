-- That faults are told, from step to step.
use Rattle.std.proofs.Common.{◌≡◌, ℕ, ◌+◌, ◌<◌, List, true, false, lt_of_not-le, refl, ap, sym, ◌∙◌, arith}
use Rattle.anb_base.specs.Wires.{WireState}
use Rattle.anb_session.specs.Faults.{TellsEnd}
use Rattle.anb_session.specs.declared.PlayEnd.{PlayEnd}
use Rattle.anb_session.specs.declared.PlayEnd.TheVariants as ends
use Rattle.anb_status.specs.declared.status.Status.{Status}
use Rattle.anb_status.specs.declared.status.Status.TheVariants.{ReadFault, WriteFault}
use Rattle.anb_status.specs.Statuses.{is_fault}
use Rattle.anb_command.specs.OverWire.{OnlyWrites, StaysReached}
use Rattle.anb_command.specs.Reported.{TellsFaults, TellsWireFaults, is_file_fault}

-- nothing failed
pub nothing_failed : (S T : WireState) (s : Status) → T.read_faults ≡ S.read_faults → T.write_faults ≡ S.write_faults → T.reach_faults ≡ S.reach_faults → TellsWireFaults S T s
nothing_failed S T s reads writes reaches = record {
  reads = λ rose. absurd (omega (arith, reads, rose));
  writes = λ rose. absurd (omega (arith, writes, rose));
  reaches = λ rose. absurd (omega (arith, reaches, rose));
}

-- nothing but writing went on
pub writing_told : (S T : WireState) (s : Status) → OnlyWrites S T → (S.write_faults < T.write_faults → s ≡ WriteFault) → TellsWireFaults S T s
writing_told S T s only writes =
    let reads : T.read_faults ≡ S.read_faults = ap (λ (w : WireState). w.read_faults) only.same in
    let reaches : T.reach_faults ≡ S.reach_faults = ap (λ (w : WireState). w.reach_faults) only.same in
    record {
      reads = λ rose. absurd (omega (arith, reads, rose));
      writes = writes;
      reaches = λ rose. absurd (omega (arith, reaches, rose));
    }

pub quiet_told : (S T : WireState) (s : Status) → OnlyWrites S T → T.write_faults ≡ S.write_faults → TellsWireFaults S T s
quiet_told S T s only quiet = writing_told S T s only (λ rose. absurd (omega (arith, quiet, rose)))

-- a session or a host that ended so
pub end_told : {E : Type 0} (status : E → Status) (end read write : E) → status read ≡ ReadFault → status write ≡ WriteFault → (S T : WireState)
    → (S.read_faults < T.read_faults → end ≡ read) → (S.write_faults < T.write_faults → end ≡ write) → T.reach_faults ≡ S.reach_faults → TellsWireFaults S T (status end)
end_told status end read write is_read is_write S T reads writes reaches = record {
  reads = λ rose. ap status (reads rose) ∙ is_read;
  writes = λ rose. ap status (writes rose) ∙ is_write;
  reaches = λ rose. absurd (omega (arith, reaches, rose));
}

module _ (S T : WireState) (end : PlayEnd) (tells : TellsEnd S T end) where
  pub session_told : (status : PlayEnd → Status) → status ends.ReadFault ≡ ReadFault → status ends.WriteFault ≡ WriteFault → TellsWireFaults S T (status end)
  session_told status is_read is_write =
      end_told status end ends.ReadFault ends.WriteFault is_read is_write S T tells.reading.told tells.writing.told tells.reach_faults

  pub session_stays : StaysReached S T
  session_stays = record {
    reached = tells.reached;
    reach_faults = tells.reach_faults;
    reads = tells.reading.never_falls;
    writes = tells.writing.never_falls;
  }

-- a status that is no fault tells that nothing failed: another one may stand in its place, or more come
module _ (S T : WireState) (s : Status) (calm : is_fault s ≡ false) (told : TellsWireFaults S T s) where
  never : is_fault s ≡ true → ⊥
  never fault = let both : false ≡ true = sym calm ∙ fault in cc

  pub calm_told : (t : Status) → TellsWireFaults S T t
  calm_told t = record {
    reads = λ rose. absurd (never (ap is_fault (told.reads rose)));
    writes = λ rose. absurd (never (ap is_fault (told.writes rose)));
    reaches = λ rose. absurd (never (ap is_fault (told.reaches rose).1));
  }

  pub told_further : (U : WireState) (t : Status) → TellsWireFaults T U t → TellsWireFaults S U t
  told_further U t later =
      let reads : T.read_faults < S.read_faults + 1 = lt_of_not-le (λ rose. never (ap is_fault (told.reads (omega (arith, rose))))) in
      let writes : T.write_faults < S.write_faults + 1 = lt_of_not-le (λ rose. never (ap is_fault (told.writes (omega (arith, rose))))) in
      let reaches : T.reach_faults < S.reach_faults + 1 = lt_of_not-le (λ rose. never (ap is_fault (told.reaches (omega (arith, rose))).1)) in
      record {
        reads = λ rose. later.reads (omega (arith, reads, rose));
        writes = λ rose. later.writes (omega (arith, writes, rose));
        reaches = λ rose. later.reaches (omega (arith, reaches, rose));
      }

-- behind files that were all fetched, and where nothing goes over the wire
pub told_behind : (f g : List ℕ → ℕ) (S T : WireState) (s : Status) → g ≡ f → TellsWireFaults S T s → TellsFaults f g S T s
told_behind f g S T s quiet wire = record { files = λ _. quiet; wire = wire }

pub told_before : (f g : List ℕ → ℕ) (S : WireState) (s : Status) → (is_file_fault s ≡ false → g ≡ f) → TellsFaults f g S S s
told_before f g S s files = record { files = files; wire = nothing_failed S S s refl refl refl }
