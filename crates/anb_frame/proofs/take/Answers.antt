use Rattle.std.proofs.Common.{◌≡◌, ◌+◌, inl, inr, refl, ◌++◌, length, take, arith, sym, ◌∙◌}
use Rattle.std.proofs.lemmas.List.{length-take-le, take_at, take_all}
use Rattle.anb_base.proofs.Joined.{Took-joined}
use Rattle.anb_frame.specs.Answers.{TookAt}
use Rattle.anb_frame.proofs.Takings.{TookAt-joined, took_front, same_written}
use Rattle.anb_frame.specs.Frames.{length_bytes}
use Rattle.anb_frame.specs.Cuts.{End, Short}
use Rattle.anb_frame.proofs.Lengths.{whole_length}
use Rattle.anb_frame.proofs.Cuts.{short_body, follows_tail, follows_long, follows_frame}
use Rattle.anb_frame.proofs.take.Goals as goal

pub returns-in_default-clause-takes : goal.returns-in_default-clause-takes
returns-in_default-clause-takes g c = let t = c.in_default.ensures.failed in (t.0, 4, (t.2, t.3), inl (t.1, refl))

pub returns-then-have-eq0-clause-follows : goal.returns-then-have-eq0-clause-follows
returns-then-have-eq0-clause-follows g c bs tail = follows_tail _ _ _ _ End bs tail c.requires c.in-Ok.ensures.took (c.in-Ok.ensures.end (omega arith)) (rw c.if-have-eq0.true refl)

pub returns-then-have-lt4-clause-follows : goal.returns-then-have-lt4-clause-follows
returns-then-have-lt4-clause-follows g c bs tail =
    let size = length-take-le c.in-Ok.have c.read_full.new.buf c.in-Ok.ensures.within in
    follows_tail _ _ _ _ (Short c.in-Ok.have 4) bs tail c.requires c.in-Ok.ensures.took (c.in-Ok.ensures.end (omega arith)) (omega arith, size, inl (omega arith, refl))

pub returns-then-len-buf-clause-follows : goal.returns-then-len-buf-clause-follows
returns-then-len-buf-clause-follows g c bs tail =
    let head = whole_length c.read_length-len.result c.in-Ok.have c.read_full.new.buf c.read_length-len.ensures c.if-have-lt4.false in
    follows_long _ _ _ c.read_length-len.result bs tail c.if-len-buf.true (omega arith) (rw head at c.in-Ok.ensures.took)

pub returns-in_default-read_full-clause-takes : goal.returns-in_default-read_full-clause-takes
returns-in_default-read_full-clause-takes g c =
    let head = whole_length c.read_length-len.result c.in-Ok.have c.read_full.new.buf c.read_length-len.ensures c.if-have-lt4.false in
    let t = c.in_default-read_full.ensures.failed in
    let s = length-take-le c.read_length-len.result c.args.buf.now (omega arith) in (
      length_bytes c.read_length-len.result ++ t.0,
      4 + c.read_length-len.result,
      TookAt-joined _ _ _ _ _ _ _ _ _ (rw head at (took_front _ _ _ _ _ _ _ c.in-Ok.ensures.within c.in-Ok.ensures.took c.in-Ok.ensures.stamped)) (t.2, same_written _ _ _ _ _ c.in-Ok.ensures.kept t.3),
      inr (c.read_length-len.result, t.0, refl, omega arith, omega (arith, s, t.1), refl),
    )

pub returns-then-got-len-clause-takes : goal.returns-then-got-len-clause-takes
returns-then-got-len-clause-takes g c =
    let head = whole_length c.read_length-len.result c.in-Ok.have c.read_full.new.buf c.read_length-len.ensures c.if-have-lt4.false in
    let size = length-take-le c.read_length-len.result c.args.buf.now (omega arith) in
    let body = length-take-le c.in-Ok-read_full.got c.read_full-2.new.buf c.in-Ok-read_full.ensures.within in (
      length_bytes c.read_length-len.result ++ take c.in-Ok-read_full.got c.read_full-2.new.buf,
      TookAt-joined _ _ _ _ _ _ _ _ _ (rw head at (took_front _ _ _ _ _ _ _ c.in-Ok.ensures.within c.in-Ok.ensures.took c.in-Ok.ensures.stamped))
          (took_front _ _ _ _ _ _ _ c.in-Ok-read_full.ensures.within c.in-Ok-read_full.ensures.took (same_written _ _ _ _ _ c.in-Ok.ensures.kept c.in-Ok-read_full.ensures.stamped)),
      c.in-Ok-read_full.ensures.end (omega (arith, size, c.read_full-2.auto.buf)),
      rw c.from.ensures (short_body _ _ _ _ (omega arith) body c.if-got-len.true),
    )

pub returns-then-got-len-clause-follows : goal.returns-then-got-len-clause-follows
returns-then-got-len-clause-follows g c bs tail =
    let t = returns-then-got-len-clause-takes g c in
    follows_tail _ _ _ t.0 (Short (4 + c.in-Ok-read_full.got) (4 + c.from.result)) bs tail c.requires t.1.0 t.2 t.3

pub returns-clause-follows : goal.returns-clause-follows
returns-clause-follows g c bs tail =
    let head = whole_length c.read_length-len.result c.in-Ok.have c.read_full.new.buf c.read_length-len.ensures c.if-have-lt4.false in
    let size : length c.read_full-2.new.buf ≡ c.read_length-len.result = c.read_full-2.auto.buf ∙ length-take-le c.read_length-len.result c.args.buf.now (omega arith) in
    let body : take c.in-Ok-read_full.got c.read_full-2.new.buf ≡ c.read_full-2.new.buf = take_all _ _ (omega arith) in
    let took = Took-joined _ _ _ _ _ (rw head at c.in-Ok.ensures.took) (rw body at c.in-Ok-read_full.ensures.took) in
    rw (take_at _ _ _ size) (follows_frame _ _ _ c.read_full-2.new.buf bs tail c.requires (omega arith) (rw (sym size) at took))
