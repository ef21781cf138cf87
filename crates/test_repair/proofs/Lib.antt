mod ChosenPlaces
mod WavePlaces
