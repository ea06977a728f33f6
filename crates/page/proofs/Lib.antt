mod Lines
mod Parts
mod Places
mod Fronts
mod NodeRead
mod NodeReturns
mod QueueReturns
mod PageReturns
