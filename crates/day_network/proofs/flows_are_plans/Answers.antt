use Rattle.day_network.proofs.FlowPlan.{day_sound, flow_to_plan, flow_delivers}
use Rattle.day_network.proofs.PlanFlow.{plan_to_flow}
use Rattle.day_network.proofs.flows_are_plans.Goals as goal

pub returns : goal.returns
returns c = record { sound = day_sound; plan = flow_to_plan; delivers = flow_delivers; flow = plan_to_flow }
