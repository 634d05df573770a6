-- What the checks of entries say, put together.
use Rattle.std.proofs.Common.{List}
use Rattle.anb_term.specs.Value.{Meaning}
use Rattle.anb_term.specs.Lawful.{Lawful}
use Rattle.anb_term.proofs.Demands.{agree_holds_all}
use Rattle.anb_close.specs.declared.entry.Entry.{Entry}
use Rattle.anb_close.specs.Entries.{labels_of, IsKnown}
use Rattle.anb_basis.specs.declared.check.Check.{Check}
use Rattle.anb_basis.specs.Checks.{AreAll, AllFit, demands_of}
use Rattle.anb_basis.specs.Statements.{AreEnough, AreJustified, AreTrueInTerms}
use Rattle.anb_basis.proofs.Meeting.{all_meet}
use Rattle.anb_basis.proofs.Worths.{agree}
use Rattle.anb_basis.proofs.Sound.{all_true_in_terms}

module _ {A : Type 0} (m : Meaning A) (es : List Entry) (cs : List Check) (known : IsKnown es) where
  pub in_terms : AllFit es cs → AreTrueInTerms m es cs
  in_terms fits formed = all_true_in_terms m.has es known formed cs fits

  pub enough : Lawful m → AreAll es cs → AreEnough m es cs
  enough lawful all formed vs long valued hold = agree m lawful vs valued es cs known all long formed (all_meet m vs lawful es cs hold)

  pub justified : Lawful m → AllFit es cs → AreJustified m es cs
  justified lawful fits formed vs valued agree = agree_holds_all m lawful (labels_of es) vs (demands_of es cs) valued agree (in_terms fits formed)
