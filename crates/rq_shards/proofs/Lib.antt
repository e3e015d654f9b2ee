mod CellIds
mod CountedCells
mod DealtShards
mod EnoughShares
