use Rattle.std.proofs.Common.{◌≤◌, length, ◌∙◌, arith, le-ltb}
use Rattle.text_bytes.proofs.Blanks.{hash_there, no_hash}
use Rattle.text_bytes.proofs.cursor.Cursor.is_at_hash.Goals as goal

pub returns-then-self : goal.returns-then-self
returns-then-self c = hash_there c.args.self.now c.if-self.true

pub returns-else-self : goal.returns-else-self
returns-else-self c = let x = c.args.self.now in let h : length x.text.now ≤ x.place = omega (arith, c.if-self.false) in le-ltb x.place (length x.text.now) h ∙ no_hash x h
