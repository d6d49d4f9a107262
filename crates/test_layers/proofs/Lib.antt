mod GuardGoals
mod FirstGoals
mod LaidRows
mod OperationRows
mod FunctionRows
mod JudgingRows
mod TokenRows
mod TreeRows
