use Rattle.std.proofs.Common.{◌≡◌, true, refl, sym, ap, ◌∙◌, rules}
use Rattle.calls.specs.Kinds.{kind_of}
use Rattle.player.specs.Rooms.{next_bytes, next_filled}
use Rattle.player.proofs.Fetching.{fetch_plays}
use Rattle.player.proofs.rooms.Rooms.play.Goals as goal

-- the room that was asked for
pub returns-in-Some-clause-line : goal.returns-in-Some-clause-line
returns-in-Some-clause-line g c =
    let (line, a, ok, filled, goes) = c.fetch-pushed.ensures.line in
    let is : (kind_of c.args.call).fetches ≡ true = search rules in
    let asked = sym c.take.ensures.value ∙ c.in-Some.is in
    (line, ok, fetch_plays _ _ _ _ a _ line c.args.self.now _ _ _ is (ap next_bytes asked) (ap next_filled asked) (record { last = refl; next = c.take.ensures.after }) goes)

-- the usual room
pub returns-in-None-clause-line : goal.returns-in-None-clause-line
returns-in-None-clause-line g c =
    let (line, a, ok, filled, goes) = c.fetch.ensures.line in
    let is : (kind_of c.args.call).fetches ≡ true = search rules in
    let asked = sym c.take.ensures.value ∙ c.in-None.is in
    (line, ok, fetch_plays _ _ _ _ a _ line c.args.self.now _ _ _ is (ap next_bytes asked) (ap next_filled asked) (record { last = refl; next = c.take.ensures.after }) goes)
