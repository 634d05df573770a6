use Rattle.anb_spoil.proofs.Halves.{fields_enough, fields_left}
use Rattle.anb_spoil.proofs.spoils.spoil_piece.Goals as goal

pub split_at-requires-3 : goal.split_at-requires-3
split_at-requires-3 c = fields_enough c.args.place _ _ _ _ _ c.field_count.ensures.fields c.split_at.ensures.front c.pieces-pieces.ensures.pieces c.requires

pub split_at-requires-4 : goal.split_at-requires-4
split_at-requires-4 c = fields_enough _ _ _ _ _ _ c.field_count-2.ensures.fields c.split_at-2.ensures.front c.pieces-pieces.ensures.pieces c.requires

pub wrong_piece-requires : goal.wrong_piece-requires
wrong_piece-requires c =
    fields_left c.args.place _ _ _ _ _ _ _ c.field_count.ensures.fields c.split_at.ensures.front c.split_at.ensures.back c.pieces-pieces.ensures.pieces c.requires c.split_at-3.ensures.back_len

pub put_pieces-requires-2 : goal.put_pieces-requires-2
put_pieces-requires-2 c =
    fields_left _ _ _ _ _ _ _ _ c.field_count-2.ensures.fields c.split_at-2.ensures.front c.split_at-2.ensures.back c.pieces-pieces.ensures.pieces c.requires c.split_at-4.ensures.back_len
