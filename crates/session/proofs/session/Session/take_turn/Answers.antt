use Rattle.session.proofs.session.Session.take_turn.Goals as goal

pub returns-in-Open : goal.returns-in-Open
returns-in-Open c = rw c.in-Open.is c.open.ensures

pub returns-in-Lane : goal.returns-in-Lane
returns-in-Lane c = rw c.in-Lane.is c.add_lane.ensures

pub returns-in-Depot : goal.returns-in-Depot
returns-in-Depot c = rw c.in-Depot.is c.name_depot.ensures

pub returns-in-Departure : goal.returns-in-Departure
returns-in-Departure c = rw c.in-Departure.is c.set_departure.ensures
