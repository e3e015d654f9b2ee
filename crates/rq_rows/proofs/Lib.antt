pub mod AllPass
