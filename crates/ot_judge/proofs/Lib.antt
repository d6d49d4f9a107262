mod Examples
mod Headers
mod OneJudgement
mod Showing
mod SomeJudgement
mod WholeRun
