use Rattle.std.proofs.Common.{◌∷◌, [], List, length, subst}
use Rattle.anb_syntax.specs.Words.{Tok}
use Rattle.anb_syntax.specs.Lexing.{Lexes}
use Rattle.anb_read.specs.Places.{tok_of}
use Rattle.anb_read.specs.declared.places.Place.TheVariants.{At, End, Bad}
use Rattle.anb_read.proofs.Lexed.{lexed_token, lexed_end, lexed_bad, pushed, pushed_last}
use Rattle.anb_read.proofs.places.places.Goals as goal

pub tokens-preserved : goal.tokens-preserved
tokens-preserved c =
    let P : List Tok → Type 0 = λ us. Lexes 0 c.args.text.now us in
    record {
      high = c.in-Token.ensures.within.1;
      so_far = λ ts h. rw c.in_ok-push-in-Token.ensures.items
          (subst P (pushed c.args.text.now c.tokens.all.items (At c.in-Token.token) ts)
          (c.tokens.invariant.so_far (tok_of c.args.text.now (At c.in-Token.token) ∷ ts) (lexed_token c.args.text.now c.tokens.from c.in-Token.token ts c.in-Token.ensures.next h)));
    }

pub returns-in-End : goal.returns-in-End
returns-in-End c = rw c.in_ok-push-in-End.ensures.items (pushed_last c.args.text.now c.tokens.all.items (End (length c.args.text.now))
    (c.tokens.invariant.so_far (tok_of c.args.text.now (End (length c.args.text.now)) ∷ []) (lexed_end c.args.text.now c.tokens.from c.in-End.ensures.next)))

pub returns-in-Bad : goal.returns-in-Bad
returns-in-Bad c = rw c.in_ok-push-in-Bad.ensures.items (pushed_last c.args.text.now c.tokens.all.items (Bad c.in-Bad.at)
    (c.tokens.invariant.so_far (tok_of c.args.text.now (Bad c.in-Bad.at) ∷ []) (lexed_bad c.args.text.now c.tokens.from c.in-Bad.at c.in-Bad.ensures.next)))
