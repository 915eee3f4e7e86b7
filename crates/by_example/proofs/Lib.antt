mod AddingNodes
mod AdderKinds
mod AdderAllowed
mod AnyPlan
mod OneHands
mod OneRun
mod LineLaws
