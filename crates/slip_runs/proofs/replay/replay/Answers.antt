use Rattle.std.proofs.Common.{rules}
use Rattle.slip_runs.proofs.Moments.{ran_none, ran_more, whole}
use Rattle.slip_runs.proofs.replay.replay.Goals as goal

pub loop-request-init : goal.loop-request-init
loop-request-init c = record {
  spare = search rules;
  answered = search rules;
  room = search rules;
  ran = ran_none _ c.args.requests.now _ c.in-Ok-with_capacity.ensures.items;
}

pub loop-request-preserved : goal.loop-request-preserved
loop-request-preserved c = record {
  spare = search rules;
  answered = search rules;
  room = search rules;
  ran = ran_more c.args.requests.now c.loop-request.request-index _ _ _ _ c.loop-request-test.true c.loop-request.invariant.ran
      c.turn.ensures.step c.push_reserved.ensures.items;
}

pub returns : goal.returns
returns c =
    whole _ _ _ c.args.requests.now _ c.loop-request.request-index _ c.new.ensures c.reserve.ensures.items c.loop-request-test.false
    c.loop-request.invariant.ran
