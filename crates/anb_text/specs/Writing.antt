-- Writing a text to a sink, a line at a time.
use Rattle.std.specs.Prelude.{◌≡◌, ◌≢◌, ◌≤◌, ℕ, List, Option, Result, Err, IfErr, OnErr, OnOk}
use Rattle.anb_base.specs.Moves.{Put, PutPrefix, Rose}
use Rattle.anb_text.specs.declared.writing.WriteNo.{WriteNo}
use Rattle.anb_text.specs.declared.writing.WriteNo.TheVariants.{Failed}

-- the text was written, or a prefix of it where the sink failed or memory was wanting
pub record IsWritten (text : List ℕ) (result : Result (Unit {0}) WriteNo) (written written_now : Option (List ℕ)) (faults faults_now : ℕ) : Type 0 where
  pub whole : OnOk result (Put written written_now text)
  pub part : OnErr result (PutPrefix written written_now text)
  pub cause : IfErr result (λ no. no ≡ Failed → Rose faults faults_now)
  -- a sink that failed is told
  pub quiet : result ≢ Err Failed → faults_now ≡ faults
  pub never_falls : faults ≤ faults_now
