use Rattle.std.proofs.Common.{◌++◌, ◌∷◌, [], None, refl, ap, ◌∙◌}
use Rattle.anb_spoil.specs.declared.changes.Change.TheVariants.{LastByte}
use Rattle.anb_spoil.specs.declared.wrongs.Wrong.TheVariants.{Changed}
use Rattle.anb_verdict.specs.declared.title.Title.TheVariants.{Narrated}
use Rattle.anb_attempts.specs.declared.attempts.Attempt.{Attempt}
use Rattle.anb_attempts.proofs.scenes.begin.Goals as goal

honest : Attempt
honest = record { scene = 0; wrong = Changed LastByte; title = Narrated; lacks = None }

pub returns-clause-begun : goal.returns-clause-begun
unfolding honest
returns-clause-begun c = record {
  scene = c.in_ok-scene.scene;
  narrated = c.in_ok-scene.ensures.narrated;
  attempt = honest;
  honest = record { scene = refl; title = refl; lacks = refl };
  scenes = c.in_ok-push.ensures.items ∙ ap (λ l. l ++ c.in_ok-scene.scene ∷ []) c.new-scenes.ensures.items;
  attempts = c.in_ok-push-2.ensures.items ∙ ap (λ l. l ++ honest ∷ []) c.new-attempts.ensures.items;
  gaps = c.new.ensures.items;
  more = refl;
}
